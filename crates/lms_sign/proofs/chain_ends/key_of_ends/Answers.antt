use Rattle.std.proofs.Common.{◌≡◌, ◌+◌, ◌-◌, List, ℕ, take, drop, arith, ap, ◌∙◌}
use Rattle.std.specs.List.{flat_map}
use Rattle.lms_sign.specs.OneTimeSignature.{key_hash}
use Rattle.lms_sign.specs.Parameters.{chain_count}
use Rattle.lms_sign.proofs.JoinedEnds.{part_joined}
use Rattle.lms_sign.proofs.chain_ends.key_of_ends.Goals as goal

pub returns : goal.returns
returns c end each =
    let count : c.args.from + c.from-count.result - c.args.from ≡ chain_count c.args.ots = omega (arith, c.from-count.ensures, c.chain_count.ensures) in
    c.key_hash.ensures
    ∙ ap (λ (n : ℕ). key_hash c.args.id.now c.args.q (flat_map (λ (end : List ℕ). end) (take n (drop c.args.from c.args.ends.now)))) count
    ∙ ap (key_hash c.args.id.now c.args.q) (part_joined end c.args.ends.now c.args.from (chain_count c.args.ots) c.requires each)
