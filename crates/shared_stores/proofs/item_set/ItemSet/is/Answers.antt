use Rattle.std.proofs.Common.{◌≡◌, List, sym, ap, ◌∙◌, subst, IsTrue}
use Rattle.std.specs.Cmp.Lexicographic.{pointwise_decides}
use Rattle.item_forms.specs.Pieces.{Piece}
use Rattle.evidence_set.specs.ItemSets.{insert_all, listed, none}
use Rattle.shared_stores.proofs.item_set.ItemSet.is.Goals as goal

pub returns : goal.returns
returns c =
    let xs : List Piece = c.self.inside.items.items in
    let ys : List Piece = c.other.inside.items.items in
    let lists = pointwise_decides c.items_are_equal_by_fields.ensures c.as_slice.result.now c.as_slice-2.result.now in
    let left : c.as_slice.result.now ≡ xs = c.as_slice.ensures.value in
    let right : c.as_slice-2.result.now ≡ ys = c.as_slice-2.ensures.value in (
      λ told.
          let same : xs ≡ ys = sym left ∙ lists.0 (subst IsTrue c.eq.ensures told) ∙ right in
          sym c.self.view_is ∙ ap (insert_all none) same ∙ c.other.view_is,
      λ e.
          let sets : insert_all none xs ≡ insert_all none ys = c.self.view_is ∙ e ∙ sym c.other.view_is in
          let same : xs ≡ ys = sym (c.sets_are_lists.ensures.same xs c.self.invariant) ∙ ap listed sets ∙ c.sets_are_lists.ensures.same ys c.other.invariant in
          subst IsTrue (sym c.eq.ensures) (lists.1 (left ∙ same ∙ sym right)),
    )
