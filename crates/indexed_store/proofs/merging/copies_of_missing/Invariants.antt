use Rattle.std.proofs.Common.{◌≡◌, not, take}
use Rattle.std.specs.List.{filter}
use Rattle.evidence_item.specs.Checking.{Checked}
use Rattle.kept_evidence.specs.Kept.{is_kept}
use Rattle.indexed_store.proofs.merging.copies_of_missing.Given as goal

abbrev pub invariant-loop-other : goal.invariant-loop-other
invariant-loop-other g l = l.copies.items ≡ filter (λ (c : Checked). not (is_kept l.index.items.items c.item)) (take l.other-index l.others)
