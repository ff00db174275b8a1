-- Elements that are moved to the end of a list, one after the other.
use Rattle.std.proofs.Common.{◌≡◌, ℕ, ◌+◌, ◌≤◌, List, [], ◌∷◌, ◌++◌, length, sym, ap, ◌∙◌, arith, refl, subst}
use Rattle.std.proofs.lemmas.List.{append_assoc, append-nil, length-append}
use Rattle.std.proofs.lemmas.List.Edits.{insert_end}
use Rattle.std.specs.List.{insert}
use Rattle.tiered_vec.specs.Tiers.{Tiered}

-- What was moved and what is left are what there was, and there is room for what is left.
pub record Moves {X : Type 0} (old now : Tiered X) (all left : List X) : Type 0 where
  pub items : now.items ++ left ≡ old.items ++ all
  pub room : length left ≤ now.room
  pub kept : old.room + length left ≤ now.room + length all

module _ {X : Type 0} where
  pub moves_none : (t : Tiered X) (all left : List X) → left ≡ all → length all ≤ t.room → Moves t t all left
  moves_none t all left is le =
      let count = ap (λ (xs : List X). length xs) is in
      record { items = ap (λ (z : List X). t.items ++ z) is; room = omega arith; kept = omega arith }

  -- There is room for the next ones.
  pub fits : (old now : Tiered X) (all left some rest : List X) → Moves old now all left → left ≡ some ++ rest → length some ≤ now.room
  fits old now all left some rest m is =
      let count = ap (λ (xs : List X). length xs) is in
      let both = length-append some rest in
      let enough = m.room in
      omega arith

  pub none_left : (xs : List X) → length xs ≡ 0 → xs ≡ []
  none_left [] e = refl
  none_left (x ∷ xs) e = absurd (omega arith)

  -- One element is put in at the end.
  pub moves_one : (old now new : Tiered X) (all left rest : List X) (x : X) (end : ℕ) → Moves old now all left → left ≡ x ∷ rest → end ≡ length now.items → new.items ≡ insert now.items end x → now.room ≤ new.room + 1 → Moves old new all rest
  moves_one old now new all left rest x end m is at items room =
      let count = ap (λ (xs : List X). length xs) is in
      let P : ℕ → Type 0 = λ n. insert now.items n x ≡ now.items ++ x ∷ [] in
      let put : new.items ≡ now.items ++ x ∷ [] = items ∙ subst P (sym at) (insert_end now.items x) in
      let enough = m.room in
      let kept = m.kept in
      record {
        items =
            ap (λ (z : List X). z ++ rest) put ∙ append_assoc now.items (x ∷ []) rest ∙ ap (λ (z : List X). now.items ++ z) (sym is) ∙ m.items;
        room = omega arith;
        kept = omega arith;
      }

  -- Several are.
  pub moves_more : (old now new : Tiered X) (all left some rest : List X) → Moves old now all left → left ≡ some ++ rest → new.items ≡ now.items ++ some → now.room ≤ new.room + length some → Moves old new all rest
  moves_more old now new all left some rest m is items room =
      let count = ap (λ (xs : List X). length xs) is in
      let both = length-append some rest in
      let enough = m.room in
      let kept = m.kept in
      record {
        items =
            ap (λ (z : List X). z ++ rest) items ∙ append_assoc now.items some rest ∙ ap (λ (z : List X). now.items ++ z) (sym is) ∙ m.items;
        room = omega arith;
        kept = omega arith;
      }

  pub moves_all : (old now : Tiered X) (all left : List X) → Moves old now all left → left ≡ [] → now.items ≡ old.items ++ all
  moves_all old now all left m none = let P : List X → Type 0 = λ z. now.items ++ z ≡ old.items ++ all in sym (append-nil now.items) ∙ subst P none m.items

  pub moves_room : (old now : Tiered X) (all left : List X) → Moves old now all left → left ≡ [] → old.room ≤ now.room + length all
  moves_room old now all left m none =
      let count = ap (λ (xs : List X). length xs) none in
      let kept = m.kept in
      omega arith
