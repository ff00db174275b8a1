use Rattle.std.proofs.Common.{Bor, IfOk, List, ℕ, map, subst}
use Rattle.std.proofs.lemmas.List.{get_or_default}
use Rattle.parallel_reading.specs.Readings.{AreReadings}
use Rattle.parallel_reading.proofs.batch.fn.read_blocks.read.Goals as goal

pub returns : goal.returns
returns g c = λ s. subst (λ (b : Bor (List (Bor (List ℕ)))). IfOk c.read_block.result (λ v. AreReadings c.captures.directory.now g.P.Program.means (map (λ (t : Bor (List ℕ)). t.now) b.now) v.items)) (get_or_default c.captures.blocks.now c.args.n _ s c.requires.0) c.read_block.ensures
