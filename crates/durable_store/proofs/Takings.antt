-- A store takes the items of a group one after the other.
use Rattle.std.proofs.Common.{◌≡◌, ℕ, inr, Bool, not, List, [], ◌∷◌, ◌++◌, append_assoc, length-append, refl, sym, ◌∙◌, ap, subst, arith}
use Rattle.std.proofs.lemmas.List.Elements.{All-rest}
use Rattle.replay_verifier.specs.Meaning.{Meaning}
use Rattle.evidence_item.specs.Checking.{Checked, IsChecked}
use Rattle.item_forms.specs.Pieces.{Piece}
use Rattle.evidence_set.specs.ItemSets.{Items, Has, IsWithin, contains, insert, insert_all, pieces}
use Rattle.evidence_set.proofs.Joins.{as_expected}
use Rattle.evidence.specs.Contents.{Contents, with_items}
use Rattle.durable_store.specs.Calls.{are_new}
use Rattle.durable_store.specs.within.Takings.{Taking}
use Rattle.durable_store.proofs.Sets.{grows, moved}

-- the answer about an item, in front of those about the others
told_on : (E : Items) (x : Checked) (later : List Checked) (news all : List Bool) → news ++ are_new E (pieces (x ∷ later)) ≡ all
    → (news ++ not (contains E x.item) ∷ []) ++ are_new (insert E x.item) (pieces later) ≡ all
told_on E x later news all so_far = append_assoc news (not (contains E x.item) ∷ []) (are_new (insert E x.item) (pieces later)) ∙ so_far

module _ {S : Type 0} (program : Meaning S) (before : Contents) (group : List Piece) (room : ℕ) where
  taken_on : (now : Contents) (news : List Bool) (x : Checked) (later : List Checked) → Taking program before group now news room (x ∷ later)
      → Taking program before group (with_items now (insert now.items x.item)) (news ++ not (contains now.items x.item) ∷ []) room later
  taken_on now news x later t = record {
    directory = t.directory;
    least = λ y has. (as_expected.insert now.items x.item y).1 (inr (t.least y has));
    all = moved now.items x.item (pieces later) ∙ t.all;
    told = told_on now.items x later news (are_new before.items group) t.told;
    fits = omega (arith, t.fits, length-append news (not (contains now.items x.item) ∷ []));
    checked = All-rest (IsChecked now.directory program) x later (x ∷ later) refl t.checked;
  }

  -- one item more
  pub goes_on : (now new : Contents) (news more : List Bool) (x : Checked) (is_new : Bool) (rest later : List Checked)
      → rest ≡ x ∷ later → is_new ≡ not (contains now.items x.item) → new ≡ with_items now (insert now.items x.item) → more ≡ news ++ is_new ∷ []
      → Taking program before group now news room rest → Taking program before group new more room later
  goes_on now new news more x is_new rest later rest_is told taken pushed t =
      let step = taken_on now news x later (subst (Taking program before group now news room) rest_is t) in
      let all : more ≡ news ++ not (contains now.items x.item) ∷ [] = pushed ∙ ap (λ (b : Bool). news ++ b ∷ []) told in
      subst (λ (c : Contents). Taking program before group c more room later) (sym taken)
      (subst (λ (l : List Bool). Taking program before group (with_items now (insert now.items x.item)) l room later) (sym all) step)

  -- what is there came from the group, or was there before
  pub most : (now : Contents) (news : List Bool) (rest : List Checked) → Taking program before group now news room rest → IsWithin now.items (insert_all before.items group)
  most now news rest t x has = subst (λ (E : Items). Has E x) t.all (grows now.items (pieces rest) x has)
