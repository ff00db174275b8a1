use Rattle.std.proofs.Common.{◌++◌, [], ℕ, List, get_or, take, sym, ap, ◌∙◌}
use Rattle.std.specs.Prelude.{slice_get}
use Rattle.std.specs.List.{flat_map}
use Rattle.std.proofs.lemmas.List.{flat_map_more, take_more}
use Rattle.item_forms.specs.Pieces.{Piece}
use Rattle.node_tables.specs.Places.{named_item}
use Rattle.indexed_store.proofs.challenges.challenges_at.Goals as goal

pub loop-at-preserved : goal.loop-at-preserved
loop-at-preserved g c =
    let places = c.args.places.now.items in
    let at = c.loop-at.at in
    let named : ℕ → List Piece = λ i. named_item (slice_get c.args.items.now i) in
    let inside = rw c.len-at-end.ensures at c.loop-at-test.true in
    c.in_ok-lend_at.ensures 0
    ∙ ap (λ (l : List Piece). l ++ named (get_or places at 0)) c.loop-at.invariant
    ∙ flat_map_more named [] (take at places) (get_or places at 0)
    ∙ ap (flat_map named) (sym (take_more places at 0 inside))
