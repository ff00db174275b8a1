-- The items of a pack that a store does not hold, and what the store is with them.
use Rattle.std.proofs.Common.{◌≡◌, ◌+◌, ◌<◌, ◌≤◌, ℕ, Bool, true, false, not, List, [], ◌∷◌, ◌++◌, Some, length, take, slice_get, get_or, option_map, sym, ap, ◌∙◌, inl, inr, arith}
use Rattle.std.specs.List.{All, filter}
use Rattle.std.proofs.lemmas.List.{append-nil, length-map, take_all}
use Rattle.std.proofs.lemmas.List.Elements.{All-push, All-same}
use Rattle.std.proofs.lemmas.Option.{slice_get-get_or, slice_get-map}
use Rattle.item_forms.specs.Pieces.{Piece}
use Rattle.evidence_item.specs.Checking.{Checked}
use Rattle.evidence_set.specs.ItemSets.{Items, IsWithin, Join, JoinsAreLeastUpperBounds, JoinsAsExpected, SetsAreLists, contains, insert_all, none, pieces}
use Rattle.transfer.proofs.Members.{cases_bool, keeps, kept}
use Rattle.transfer.proofs.Walked.{filter_one_more, pieces-push}

abbrev pub is_missing : Items → Piece → Bool
is_missing E x = not (contains E x)

-- ---- the loop

module _ (E : Items) (P : Checked → Type 0) (items : List Checked) where
  -- The items before place n that the set does not have.
  pub record AreMissing (n : ℕ) (found : List Checked) : Type 0 where
    pub are : pieces found ≡ filter (is_missing E) (take n (pieces items))
    pub checked : All P found

  module _ (n : ℕ) (item : Checked) (inside : n < length items) (is : item ≡ get_or items n item) where
    here : slice_get (pieces items) n ≡ Some item.item
    here = slice_get-map (λ (c : Checked). c.item) items n ∙ ap (option_map (λ (c : Checked). c.item)) (slice_get-get_or items n item inside ∙ ap (λ (c : Checked). Some c) (sym is))

    -- an item that is not held is copied,
    pub one_missing : (found new : List Checked) (copy : Checked) → contains E item.item ≡ false → copy ≡ item → P copy → new ≡ found ++ copy ∷ [] → AreMissing n found → AreMissing (n + 1) new
    one_missing found new copy held same holds pushed before = record {
      are = ap pieces pushed
          ∙ pieces-push found copy
          ∙ ap (λ (l : List Piece). l ++ copy.item ∷ []) before.are
          ∙ ap (λ (c : Checked). filter (is_missing E) (take n (pieces items)) ++ c.item ∷ []) same
          ∙ sym (filter_one_more (pieces items) n item.item here (is_missing E) true (ap not held));
      checked = All-same P _ _ pushed (All-push P found copy before.checked holds);
    }

    -- and another one is not
    pub one_held : (found : List Checked) → contains E item.item ≡ true → AreMissing n found → AreMissing (n + 1) found
    one_held found held before = record {
      are = before.are ∙ sym (append-nil (filter (is_missing E) (take n (pieces items)))) ∙ sym (filter_one_more (pieces items) n item.item here (is_missing E) false (ap not held));
      checked = before.checked;
    }

  pub all_missing : (n : ℕ) (found : List Checked) → length items ≤ n → AreMissing n found → pieces found ≡ filter (is_missing E) (pieces items)
  all_missing n found past before =
      before.are ∙ ap (filter (is_missing E)) (take_all n (pieces items) (omega (arith, past, length-map items (λ (c : Checked). c.item))))

-- ---- the set

module _ (lists : SetsAreLists) (joins : JoinsAsExpected) (bounds : JoinsAreLeastUpperBounds) where
  -- a set and what it does not have of some items are the set and the items
  pub joined : (E : Items) (items missing : List Piece) → missing ≡ filter (is_missing E) items → Join E (insert_all none missing) ≡ Join E (insert_all none items)
  joined E items missing is = ap (λ (l : List Piece). Join E (insert_all none l)) is ∙ bounds.one (Join E (insert_all none (filter (is_missing E) items))) (Join E (insert_all none items)) there back
    where
      there : IsWithin (Join E (insert_all none (filter (is_missing E) items))) (Join E (insert_all none items))
      there x h = (joins.members E (insert_all none items) x).1 (elim ((joins.members E (insert_all none (filter (is_missing E) items)) x).0 h) [
        | inl own ↦ inl own
        | inr new ↦ inr ((lists.together none items x).1 (elim ((lists.together none (filter (is_missing E) items) x).0 new) [
          | inl empty ↦ inl empty
          | inr c ↦ inr (kept (is_missing E) items x c).0
        ]))
      ])

      back : IsWithin (Join E (insert_all none items)) (Join E (insert_all none (filter (is_missing E) items)))
      back x h = (joins.members E (insert_all none (filter (is_missing E) items)) x).1 (elim ((joins.members E (insert_all none items) x).0 h) [
        | inl own ↦ inl own
        | inr item ↦ elim (cases_bool (contains E x)) [
          | inl held ↦ inl held
          | inr missing ↦ inr ((lists.together none (filter (is_missing E) items) x).1 (elim ((lists.together none items x).0 item) [
            | inl empty ↦ inl empty
            | inr c ↦ inr (keeps (is_missing E) items x (ap not missing) c)
          ]))
        ]
      ])
