use Rattle.std.proofs.Common.{◌≡◌, List, ℕ, length, ap, arith}
use Rattle.kept_items.proofs.writing.entry_len.Goals as goal

pub overflow_add-result : goal.overflow_add-result
overflow_add-result c =
    let same : length c.content.result.now ≡ length c.args.shared.now.entry.content = ap (λ (t : List ℕ). length t) c.content.ensures in
    omega (arith, same, c.requires.content.count)

pub returns : goal.returns
returns c =
    let same : length c.content.result.now ≡ length c.args.shared.now.entry.content = ap (λ (t : List ℕ). length t) c.content.ensures in
    omega (arith, same)
