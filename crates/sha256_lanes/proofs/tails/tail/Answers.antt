use Rattle.std.proofs.Common.{◌≡◌, ◌%◌, ◌+◌, ◌-◌, ◌*◌, ◌∙◌, ap, arith, drop, length, length-drop, refl, replicate, take}
use Rattle.std.proofs.lemmas.List.{take_rest}
use Rattle.sha256_lanes.proofs.Texts256.{tail_written}
use Rattle.sha256_lanes.proofs.tails.tail.Goals as goal

pub returns : goal.returns
returns c =
    let m = c.args.text.now in
    let r = length m % 64 in
    let e = 64 * c.tail_blocks-end.result in
    let rest = take_rest m (length m - r) in
    let place : 0 + length (take (length m - (length m - r)) (drop (length m - r) m)) ≡ r =
    omega (arith, ap length rest, length-drop (length m - r) m) in
    let end : e - 8 + length c.to_be_bytes.result ≡ e = omega (arith, ap length c.to_be_bytes.ensures, c.tail_blocks-end.ensures.value) in
    tail_written m (replicate 128 0) c.put.new.text c.put-2.new.text c.put-3.new.text c.to_be_bytes.result 128 r e refl refl refl
    (ap (λ n. 64 * n) c.tail_blocks-end.ensures.value) c.to_be_bytes.ensures
    (rw place at c.put.ensures.front ∙ rest) (rw place at c.put.ensures.back) c.put-2.ensures.front c.put-2.ensures.back (rw end at c.put-3.ensures.front)
