use Rattle.std.proofs.Common.{◌≡◌, map, take}
use Rattle.item_forms.specs.Pieces.{Piece}
use Rattle.answers.specs.Showing.{seen_of}
use Rattle.answers.proofs.showing.all_seen.Given as goal

abbrev pub invariant-loop-item : goal.invariant-loop-item
invariant-loop-item l = l.seen.items ≡ map seen_of (map (λ (i : Piece). i.fields) (take l.item-index l.items))
