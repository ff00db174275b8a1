use Rattle.evidence_set.specs.ItemSets.{pieces}
use Rattle.std.proofs.Common.{◌≡◌, map, take}
use Rattle.std.specs.List.{filter}
use Rattle.item_forms.specs.Pieces.{Piece}
use Rattle.kept_evidence.specs.Telling.{is_unanswered}
use Rattle.plain_store.proofs.opening.unanswered_of.Given as goal

abbrev pub invariant-loop-checked : goal.invariant-loop-checked
invariant-loop-checked g l = map (λ i. i.now) l.found.items ≡ filter (λ (x : Piece). is_unanswered l.kept l.node x.fields) (pieces (take l.checked-index l.items))
