-- Hands to which items are dealt in turn.
use Rattle.std.proofs.Common.{◌≡◌, ◌≢◌, ◌∙◌, ◌+◌, ◌-◌, ◌<◌, ◌⊎◌, ℕ, zero, suc, Bool, true, false, cond, List, [], ◌∷◌, ◌++◌, All, ap, append_assoc, arith, get_or, inl, inr, length, refl, subst, sym}
use Rattle.std.proofs.Math.ListN.{set}
use Rattle.std.proofs.lemmas.Bool.{cases_lt}
use Rattle.std.proofs.lemmas.List.{append-nil, get_or-set_other, get_or-set_same}
use Rattle.scenario_run.specs.declared.opening.TheConstants.{CALLERS}
use Rattle.scenario_run.specs.within.Dealt.{AreDealt, GivesTo, IsEmpty, every}

-- ---- one hand

-- A hand has just the share of these items that is its callers' once the items that are left are dealt to it.
pub record Fills {A : Type 0} (turn : Bool) (one two left all : List A) : Type 0 where
  pub first : one ++ every (cond turn 1 0) CALLERS left ≡ every 0 CALLERS all
  pub second : two ++ every (cond turn 0 1) CALLERS left ≡ every 1 CALLERS all

hand_begins : {A : Type 0} (turn : Bool) (one two all : List A) → IsEmpty turn one two → Fills turn one two all all
hand_begins turn one two all (is, none, nothing) = rw (is, none, nothing) (record { first = refl; second = refl })

hand_goes_on : {A : Type 0} (turn next : Bool) (x : A) (one two new_one new_two left all : List A) → GivesTo turn x one two next new_one new_two → Fills turn one two (x ∷ left) all → Fills next new_one new_two left all
unfolding every
hand_goes_on false next x one two new_one new_two left all (is, given, other) so_far = rw (is, given, other) (record { first = append_assoc one (x ∷ []) (every 1 CALLERS left) ∙ so_far.first; second = so_far.second })
hand_goes_on true next x one two new_one new_two left all (is, other, given) so_far = rw (is, other, given) (record { first = so_far.first; second = append_assoc two (x ∷ []) (every 1 CALLERS left) ∙ so_far.second })

hand_ends : {A : Type 0} (turn : Bool) (one two all : List A) → Fills turn one two [] all → (one ≡ every 0 CALLERS all) × (two ≡ every 1 CALLERS all)
unfolding every
hand_ends turn one two all so_far = (sym (append-nil one) ∙ so_far.first, sym (append-nil two) ∙ so_far.second)

-- ---- all hands

-- Place j comes so many places behind the next one, of so many in turn.
pub record IsAhead (count next j ahead : ℕ) : Type 0 where
  pub below : ahead < count
  pub place : (next + ahead ≡ j) ⊎ (next + ahead ≡ j + count)

-- The place behind another one, in turn.
abbrev IsAfter : ℕ → ℕ → ℕ → Type 0
IsAfter count next after = (after ≡ next + 1) ⊎ ((after ≡ 0) × (next + 1 ≡ count))

every_none : {A : Type 0} (place count : ℕ) → every {A = A} place count [] ≡ []
unfolding every
every_none place count = refl

every_first : {A : Type 0} (x : A) (left : List A) (ahead count : ℕ) → ahead + 1 ≡ count → every 0 count (x ∷ left) ≡ x ∷ every ahead count left
unfolding every
every_first x left ahead count last = let is : count - 1 ≡ ahead = omega (arith, last) in ap (λ (n : ℕ). x ∷ every n count left) is

every_other : {A : Type 0} (x : A) (left : List A) (ahead count : ℕ) → every (suc ahead) count (x ∷ left) ≡ every ahead count left
unfolding every
every_other x left ahead count = refl

module _ {H A : Type 0} (turn : H → Bool) (first second : H → List A) (count : ℕ) (items : List A) where
  abbrev IsFilled : H → List A → List A → Type 0
  IsFilled h left all = Fills (turn h) (first h) (second h) left all

  -- Each hand has its share once the items that are left are dealt.
  abbrev pub Dealing : ℕ → List A → List H → Type 0
  Dealing next left hands = (j ahead : ℕ) (h : H) → j < count → IsAhead count next j ahead → IsFilled (get_or hands j h) (every ahead count left) (every j count items)

  pub dealing_begins : (hands : List H) (left : List A) (next : ℕ) → next ≡ 0 → length hands ≡ count → left ≡ items → All (λ h. IsEmpty (turn h) (first h) (second h)) hands → Dealing next left hands
  dealing_begins hands left next none many is empty j ahead h below place =
      let here : ahead ≡ j = elim place.place [
        | inl near ↦ omega (arith, near, none)
        | inr far ↦ absurd (omega (arith, far, none, place.below, below))
      ] in
      let begun : IsFilled (get_or hands j h) (every j count items) (every j count items) = hand_begins _ _ _ (every j count items) (empty j h (omega (arith, many, below))) in
      let now : every ahead count left ≡ every j count items = ap (λ (n : ℕ). every n count left) here ∙ ap (every j count) is in
      subst (λ (l : List A). IsFilled (get_or hands j h) l (every j count items)) (sym now) begun

  -- the next place is none ahead, and the others come nearer by one
  nearer : (next after j ahead : ℕ) → next < count → j < count → IsAfter count next after → IsAhead count after j ahead → ((ahead + 1 ≡ count) × (j ≡ next)) ⊎ ((ahead + 1 < count) × (j ≢ next) × IsAhead count next j (suc ahead))
  nearer next after j ahead below inside (inl more) place = elim (cases_lt (ahead + 1) count) [
    | inl near ↦ elim place.place [
      | inl p ↦ inr (near, λ same. absurd (omega (arith, p, more, same)), record { below = omega (arith, near); place = inl (omega (arith, p, more)) })
      | inr p ↦ inr (near, λ same. absurd (omega (arith, p, more, same, near)), record { below = omega (arith, near); place = inr (omega (arith, p, more)) })
    ]
    | inr last ↦ elim place.place [
      | inl p ↦ absurd (omega (arith, p, more, last, place.below, inside))
      | inr p ↦ inl (omega (arith, last, place.below), omega (arith, p, more, last, place.below))
    ]
  ]
  nearer next after j ahead below inside (inr (around, end)) place = elim (cases_lt (ahead + 1) count) [
    | inl near ↦ elim place.place [
      | inl p ↦ inr (near, λ same. absurd (omega (arith, p, around, end, same, near)), record { below = omega (arith, near); place = inr (omega (arith, p, around, end)) })
      | inr p ↦ absurd (omega (arith, p, around, near))
    ]
    | inr last ↦ elim place.place [
      | inl p ↦ inl (omega (arith, last, place.below), omega (arith, p, around, end, last, place.below))
      | inr p ↦ absurd (omega (arith, p, around, place.below))
    ]
  ]

  pub dealing_goes_on : (hands : List H) (left rest : List A) (next after : ℕ) (x : A) (old new : H) → length hands ≡ count → next < count → IsAfter count next after → left ≡ x ∷ rest → old ≡ get_or hands next old
      → GivesTo (turn old) x (first old) (second old) (turn new) (first new) (second new) → Dealing next left hands → Dealing after rest (set hands next new)
  dealing_goes_on hands left rest next after x old new many below behind taken at gives so_far j ahead h inside place = elim (nearer next after j ahead below inside behind place) [
    | inl (last, here) ↦
        let own : get_or (set hands next new) j h ≡ new = ap (λ (n : ℕ). get_or (set hands next new) n h) here ∙ get_or-set_same hands next new h (omega (arith, many, below)) in
        let from : every 0 count left ≡ x ∷ every ahead count rest = ap (every 0 count) taken ∙ every_first x rest ahead count last in
        let before : IsFilled (get_or hands next old) (every 0 count left) (every next count items) = so_far next 0 old below (record { below = omega (arith, below); place = inl (omega arith) }) in
        let own_before : IsFilled old (x ∷ every ahead count rest) (every next count items) = subst (λ (g : H). IsFilled g (x ∷ every ahead count rest) (every next count items)) (sym at) (subst (λ (l : List A). IsFilled (get_or hands next old) l (every next count items)) from before) in
        let own_after : IsFilled new (every ahead count rest) (every next count items) = hand_goes_on _ _ x _ _ _ _ (every ahead count rest) (every next count items) gives own_before in
        subst (λ (g : H). IsFilled g (every ahead count rest) (every j count items)) (sym own) (subst (λ (n : ℕ). IsFilled new (every ahead count rest) (every n count items)) (sym here) own_after)
    | inr (near, apart, before) ↦
        let other : get_or (set hands next new) j h ≡ get_or hands j h = get_or-set_other hands next j new h apart in
        let from : every (suc ahead) count left ≡ every ahead count rest = ap (every (suc ahead) count) taken ∙ every_other x rest ahead count in
        subst (λ (g : H). IsFilled g (every ahead count rest) (every j count items)) (sym other) (subst (λ (l : List A). IsFilled (get_or hands j h) l (every j count items)) from (so_far j (suc ahead) h inside before))
  ]

  pub dealing_ends : (hands : List H) (left : List A) (next : ℕ) → next < count → left ≡ [] → Dealing next left hands → AreDealt first second count items hands
  dealing_ends hands left next below none so_far j h inside =
      let some : (ahead : ℕ) × IsAhead count next j ahead = elim (cases_lt j next) [
        | inl behind ↦ (j + count - next, record { below = omega (arith, behind, below); place = inr (omega (arith, behind, below)) })
        | inr before ↦ (j - next, record { below = omega (arith, before, inside); place = inl (omega (arith, before)) })
      ] in
      let gone : every some.0 count left ≡ [] = ap (every some.0 count) none ∙ every_none some.0 count in
      hand_ends _ _ _ (every j count items) (subst (λ (l : List A). IsFilled (get_or hands j h) l (every j count items)) gone (so_far j some.0 h inside some.1))
