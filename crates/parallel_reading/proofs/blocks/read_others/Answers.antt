use Rattle.std.proofs.Common.{◌≡◌, ◌+◌, ◌<◌, Bor, List, ℕ, length, map, arith}
use Rattle.parallel_reading.proofs.InBlocks.{more_read, more_within}
use Rattle.parallel_reading.proofs.Placed.{reading_at}
use Rattle.parallel_reading.proofs.blocks.read_others.Goals as goal

pub loop-alloc-preserved : goal.loop-alloc-preserved
loop-alloc-preserved g c =
    let xs : List (Bor (List ℕ)) = c.args.texts.now in
    let readings = c.loop-alloc.readings.items in
    let new = c.push.new.self.items in
    let ok = c.loop-alloc.readings.ok in
    let len = c.len.ensures in
    let at = c.len-at.ensures in
    let test = c.loop-alloc-test.true in
    let k : c.len-at.result ≡ length readings = omega (arith, ok, at) in
    let within : c.len-at.result + 1 < length xs = omega (arith, ok, len, at, test) in
    let more = more_read c.args.directory.now g.P.Program.means (map (λ (t : Bor (List ℕ)). t.now) xs) readings new c.read_item.result c.len-at.result k c.loop-alloc.invariant.1
    (λ t. reading_at c.args.directory.now g.P.Program.means xs c.len-at.result t _ _ c.read_item.result within c.read_item.ensures.exact c.read_item.ensures.checked)
    c.in_ok-push.ensures.items in
    (more_within readings new c.read_item.result (length xs) c.in_ok-push.ensures.items (omega (arith, within, k)), more)
