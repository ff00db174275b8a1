use Rattle.std.proofs.Common.{◌≡◌, ◌+◌, ◌<◌, Bor, List, ℕ, length, map, arith}
use Rattle.std.proofs.lemmas.List.{length-map}
use Rattle.parallel_reading.proofs.InBlocks.{decoded_at, more_decoded}
use Rattle.parallel_reading.proofs.blocks.decode_front.Goals as goal

pub loop-alloc-preserved : goal.loop-alloc-preserved
loop-alloc-preserved c =
    let xs : List (Bor (List ℕ)) = c.args.texts.now in
    let items = c.loop-alloc.items.items in
    let ok = c.loop-alloc.items.ok in
    let len = c.len.ensures in
    let at = c.len-at.ensures in
    let test = c.loop-alloc-test.true in
    let long : length (map (λ (t : Bor (List ℕ)). t.now) xs) ≡ length xs = length-map xs (λ (t : Bor (List ℕ)). t.now) in
    let k : c.len-at.result ≡ length items = omega (arith, ok, at) in
    let within : c.len-at.result + 1 < length xs = omega (arith, ok, len, at, test) in
    more_decoded (map (λ (t : Bor (List ℕ)). t.now) xs) items c.keep_item.new.items.items c.in-Some.item c.len-at.result k c.loop-alloc.invariant (omega (arith, within, long)) (decoded_at xs c.len-at.result _ _ c.in-Some.item within c.in-Some.ensures) c.in-Ok.ensures.kept
