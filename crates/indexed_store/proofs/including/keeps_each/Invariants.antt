use Rattle.std.proofs.Common.{◌≡◌, true, take}
use Rattle.std.specs.List.{list_all}
use Rattle.evidence_item.specs.Checking.{Checked}
use Rattle.kept_evidence.specs.Kept.{is_kept}
use Rattle.indexed_store.proofs.including.keeps_each.Given as goal

abbrev pub invariant-loop-other : goal.invariant-loop-other
invariant-loop-other g l = list_all (λ (c : Checked). is_kept l.index.items.items c.item) (take l.other-index l.others) ≡ true
