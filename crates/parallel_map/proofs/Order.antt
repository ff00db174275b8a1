-- A sorted list that has each number of a range once has them in their order.
use Rattle.std.proofs.Common.{◌≡◌, ℕ, zero, suc, ◌+◌, ◌-◌, ◌<◌, ◌≤◌, ◌≢◌, ◌⊎◌, inl, inr, cond, ltb, List, [], ◌∷◌, length, map, get_or, refl, sym, ap, subst, zero-add, ◌∙◌, eqb, arith}
use Rattle.std.specs.List.{sum_by, All, flat_map}
use Rattle.atomic_table.specs.Seated.{TableId}
use Rattle.parallel_map.specs.declared.workers.Drawn.{Drawn}
use Rattle.std.specs.List.Sorted.{IsNonDecreasingBy, IsPermutation}
use Rattle.std.specs.Fn.{FnReturns}
use Rattle.std.specs.Fork.{GivesEach}
use denote.Param.Members.{Shared}
use Rattle.std.proofs.lemmas.List.{get_or-map, length-map}
use Rattle.std.proofs.lemmas.List.Sorted.{sum_by-IsPermutation, All-permutation}
use Rattle.std.proofs.lemmas.List.Elements.{All-get_or}
use Rattle.parallel_map.specs.declared.workers.Placed.{Placed}
use Rattle.parallel_map.specs.Claiming.{EachOnce, times, once_below}
use Rattle.parallel_map.specs.within.Working.{GivesAt, GivesPlaced, Worked, places}
use Rattle.parallel_map.proofs.Turns.{at_place, gives_all}
use Rattle.std.proofs.lemmas.Bool.Decides.{nat_tests}
use Rattle.std.proofs.lemmas.List.Sums.{sum_by-cons}

abbrev pub is_at : {X : Type 0} → (X → ℕ) → ℕ → X → ℕ
is_at n x y = cond (eqb (n y) x) 1 0

-- 1 for a number of the m numbers from `from` on, else 0.
abbrev pub once_from : ℕ → ℕ → ℕ → ℕ
once_from from m x = cond (ltb x (from + m)) (cond (ltb x from) 0 1) 0

none_above : {X : Type 0} (n : X → ℕ) (x : ℕ) (ys : List X) → ((k : ℕ) (d : X) → k < length ys → x < n (get_or ys k d)) → sum_by (is_at n x) ys ≡ 0
none_above n x [] above = refl
none_above n x (y ∷ ys) above =
    let here : x < n y = above 0 y (omega arith) in
    let rest : sum_by (is_at n x) ys ≡ 0 = none_above n x ys (λ k d below. above (suc k) d (omega arith)) in
    let s = sum_by-cons (is_at n x) y ys in
    grind (arith, nat_tests)

-- A list with no element above x, whose first is above x, has x nowhere.
first_is : {X : Type 0} (n : X → ℕ) (from : ℕ) (y : X) (ys : List X) → IsNonDecreasingBy n (y ∷ ys) → sum_by (is_at n from) (y ∷ ys) ≢ 0 → n y ≤ from
first_is n from y ys up some = le_or (leb_cases from (n y))
  where
    le_or : (from < n y) ⊎ (n y ≤ from) → n y ≤ from
    le_or (inl above) = absurd (some (none_above n from (y ∷ ys) (λ k d below. let h = up 0 k d (omega arith) below in omega arith)))
    le_or (inr le) = le

    leb_cases : (a b : ℕ) → (a < b) ⊎ (b ≤ a)
    leb_cases a b = grind arith

tail_up : {X : Type 0} (n : X → ℕ) (y : X) (ys : List X) → IsNonDecreasingBy n (y ∷ ys) → IsNonDecreasingBy n ys
tail_up n y ys up i j d le below = up (suc i) (suc j) d (omega arith) (omega arith)

bounds : {X : Type 0} (n : X → ℕ) (from m : ℕ) (y : X) (ys : List X) → sum_by (is_at n (n y)) (y ∷ ys) ≡ once_from from m (n y) → (from ≤ n y) × (n y < from + m)
bounds n from m y ys once = let s = sum_by-cons (is_at n (n y)) y ys in within (n y) from m (sum_by (is_at n (n y)) ys) (sym s ∙ once)
  where
    within : (v from m rest : ℕ) → cond (eqb v v) 1 0 + rest ≡ once_from from m v → (from ≤ v) × (v < from + m)
    within v from m rest e = (grind (arith, nat_tests), grind (arith, nat_tests))

not_none : (from m : ℕ) → 0 < m → once_from from m from ≢ 0
not_none from m some = grind (arith, nat_tests)

one_less : (v from m x b : ℕ) → v ≡ from → 0 < m → cond (eqb v x) 1 0 + b ≡ once_from from m x → b ≡ once_from (suc from) (m - 1) x
one_less v from m x b here some e = grind (arith, nat_tests)

at_k : {X : Type 0} (n : X → ℕ) (from m : ℕ) (y : X) (ys : List X) → n y ≡ from → ((k : ℕ) (d : X) → k < m - 1 → n (get_or ys k d) ≡ suc from + k)
    → (k : ℕ) (d : X) → k < m → n (get_or (y ∷ ys) k d) ≡ from + k
at_k n from m y ys here rest zero d below = omega arith
at_k n from m y ys here rest (suc k) d below = omega (arith, rest k d (omega arith))

pub in_order : {X : Type 0} (n : X → ℕ) (from m : ℕ) (xs : List X) → IsNonDecreasingBy n xs → ((x : ℕ) → sum_by (is_at n x) xs ≡ once_from from m x)
    → (length xs ≡ m) × ((k : ℕ) (d : X) → k < m → n (get_or xs k d) ≡ from + k)
in_order n from m [] up once = let none : m ≡ 0 = let h = once from in grind (arith, nat_tests) in (sym none, λ k d below. absurd (omega arith))
in_order n from m (y ∷ ys) up once =
    let within : (from ≤ n y) × (n y < from + m) = bounds n from m y ys (once (n y)) in
    let some : sum_by (is_at n from) (y ∷ ys) ≢ 0 = λ none. not_none from m (omega arith) (sym (once from) ∙ none) in
    let le : n y ≤ from = first_is n from y ys up some in
    let here : n y ≡ from = omega arith in
    let rest = in_order n (suc from) (m - 1) ys (tail_up n y ys up) (λ x. one_less (n y) from m x (sum_by (is_at n x) ys) here (omega arith) (sym (sum_by-cons (is_at n x) y ys) ∙ once x)) in (
      omega arith,
      λ k d below. at_k n from m y ys here rest.1 k d below,
    )

times_places : {T : Type 0} (x : ℕ) (ps : List (Placed T)) → times x (places ps) ≡ sum_by (is_at (λ (p : Placed T). p.place) x) ps
times_places x [] = refl
times_places {T} x (p ∷ ps) = omega (arith, times_places x ps, sum_by-cons (is_at (λ (q : Placed T). q.place) x) p ps, sum_by-cons (λ y. cond (eqb y x) 1 0) p.place (places ps))

below_from : (x count a : ℕ) → a ≡ once_below x count → a ≡ once_from 0 count x
below_from x count a e = grind (arith, nat_tests)

-- The values of a list that has each place once, in the order of the places.
pub placed_all : {F T : Type 0} (g : Shared F (ℕ × Unit {0}) T) (f : F) (count : ℕ) (ps qs : List (Placed T)) → EachOnce count (places ps) → GivesPlaced g f ps → IsPermutation ps qs
    → IsNonDecreasingBy (λ (p : Placed T). p.place) qs → (vs : List T) → vs ≡ map (λ (p : Placed T). p.value) qs → (length vs ≡ count) × GivesEach g f count vs
placed_all {F} {T} g f count ps qs once gives moved up vs is =
    let place : Placed T → ℕ = λ p. p.place in
    let value : Placed T → T = λ p. p.value in
    let order = in_order place 0 count qs up (λ x. sum_by-IsPermutation (is_at place x) ps qs moved ∙ (sym (times_places x ps) ∙ below_from x count _ (once.each x))) in
    let all : All (GivesAt g f) qs = All-permutation (GivesAt g f) ps qs moved gives in (
      ap length is ∙ (length-map qs value ∙ order.0),
      λ i d below.
          let p : Placed T = at_place 0 d in
          let within : i < length qs = let o = order.0 in omega arith in
          let here : GivesAt g f (get_or qs i p) = All-get_or (GivesAt g f) qs i p within all in
          let at_i : place (get_or qs i p) ≡ i = order.1 i p below ∙ zero-add i in
          let v : get_or vs i d ≡ value (get_or qs i p) = ap (λ l. get_or l i d) is ∙ get_or-map value qs i p d within in (
            refl,
            subst (λ w. FnReturns g f (i, tt) w) (sym v) (subst (λ k. FnReturns g f (k, tt) (value (get_or qs i p))) at_i here),
          ),
    )

pub drawn_all : {F T : Type 0} (g : Shared F (ℕ × Unit {0}) T) (f : F) (count : ℕ) (table : TableId) (ds : List (Drawn T)) (ps qs : List (Placed T)) (numbers : List ℕ) (word : ℕ) (vs : List T) → word ≡ count
    → EachOnce word numbers → numbers ≡ places ps → ps ≡ flat_map (λ (d : Drawn T). d.placed.items) ds → All (Worked g f table) ds → IsPermutation ps qs → IsNonDecreasingBy (λ (p : Placed T). p.place) qs
    → vs ≡ map (λ (p : Placed T). p.value) qs → (length vs ≡ count) × GivesEach g f count vs
drawn_all g f count table ds ps qs numbers word vs all_drawn once numbered is worked moved up listed =
    let once' : EachOnce count (places ps) = subst (λ l. EachOnce count l) numbered (subst (λ n. EachOnce n numbers) all_drawn once) in
    let gives : GivesPlaced g f ps = subst (λ l. GivesPlaced g f l) (sym is) (gives_all g f table ds worked) in
    placed_all g f count ps qs once' gives moved up vs listed
