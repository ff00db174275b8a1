use Rattle.std.proofs.Common.{◌++◌, [], ℕ, List, get_or, take, sym, ap, ◌∙◌}
use Rattle.std.specs.Prelude.{slice_get}
use Rattle.std.specs.List.{flat_map}
use Rattle.std.proofs.lemmas.List.{flat_map_more, take_more}
use Rattle.std.proofs.lemmas.Option.{slice_get-get_or}
use Rattle.item_forms.specs.Pieces.{Piece}
use Rattle.node_tables.specs.Places.{named_item}
use Rattle.indexed_store.proofs.listing.in_order.Goals as goal

pub loop-n-preserved : goal.loop-n-preserved
loop-n-preserved g c =
    let order = c.args.index.now.order.items in
    let n = c.loop-n.n in
    let named : ℕ → List Piece = λ i. named_item (slice_get c.args.index.now.items.items i) in
    let inside = rw c.len-n-end.ensures at c.loop-n-test.true in
    c.in_ok-lend_at.ensures (get_or order n 0) (slice_get-get_or order n 0 inside)
    ∙ ap (λ (l : List Piece). l ++ named (get_or order n 0)) c.loop-n.invariant
    ∙ flat_map_more named [] (take n order) (get_or order n 0)
    ∙ ap (flat_map named) (sym (take_more order n 0 inside))
