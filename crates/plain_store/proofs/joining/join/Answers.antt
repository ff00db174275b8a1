use Rattle.std.proofs.Common.{◌≡◌, Bool, true, false, ◌++◌, refl, sym}
use Rattle.std.specs.Ordering.{eq_by_cmp}
use Rattle.std.specs.List.{Contains}
use Rattle.evidence_item.specs.Checking.{Checked}
use Rattle.kept_evidence.specs.Kept.{by_item}
use Rattle.kept_evidence.proofs.Merged.{members_together, sorted_together}
use Rattle.kept_evidence.proofs.Orders.{by_item_total, equal_items}
use Rattle.plain_store.proofs.joining.join.Goals as goal

pub returns-clause-ascending : goal.returns-clause-ascending
returns-clause-ascending g c =
    let kept = c.args.kept.now.items in
    let more = c.args.more.items in
    let appended : c.append.new.self.items ≡ kept ++ more = rw (c.append.ensures.succeeds c.requires.room) at c.append.ensures.items in
    let moved = rw appended at c.sort.ensures.permutation in
    sorted_together by_item by_item_total kept more c.sort.new.items.items c.requires.kept c.requires.more (λ x y in_kept in_more. apart x y in_kept in_more (eq_by_cmp by_item x y) refl) moved c.sort.ensures.sorted
  where
    apart : (x y : Checked) → Contains c.args.kept.now.items x → Contains c.args.more.items y → (b : Bool) → eq_by_cmp by_item x y ≡ b → eq_by_cmp by_item x y ≡ false
    apart x y in_kept in_more false e = e
    apart x y in_kept in_more true e = absurd (c.requires.apart x.item (x, in_kept, refl) (y, in_more, sym (equal_items x y e)))

pub returns-clause-members : goal.returns-clause-members
returns-clause-members g c =
    let kept = c.args.kept.now.items in
    let more = c.args.more.items in
    let appended : c.append.new.self.items ≡ kept ++ more = rw (c.append.ensures.succeeds c.requires.room) at c.append.ensures.items in
    members_together kept more c.sort.new.items.items (rw appended at c.sort.ensures.permutation)
