use Rattle.std.proofs.Common.{Bor, List, ℕ, map}
use Rattle.parallel_reading.proofs.InBlocks.{read_front}
use Rattle.parallel_reading.proofs.blocks.read_block.Goals as goal

pub read_others-requires-clause-read : goal.read_others-requires-clause-read
read_others-requires-clause-read g c =
    read_front c.args.directory.now g.P.Program.means (map (λ (t : Bor (List ℕ)). t.now) c.args.texts.now) c.decode_front-items.result.items c.in_ok-readings.readings.items c.decode_front-items.ensures c.in_ok-readings.ensures
