-- Each step keeps the rule of the claim counter.
use Rattle.std.proofs.Common.{◌≡◌, ℕ, zero, suc, ◌+◌, ◌-◌, ◌<◌, ◌≤◌, ◌==◌, ◌≢◌, Bool, true, false, cond, List, [], ◌∷◌, ◌++◌, length, slice_index, set, refl, sym, ap, ◌∙◌, subst, ⊎_elim, eqb, arith}
use mathlib.Core.Option.{some, none, some-injective, some-ne-none}
use lib.ListN.{get_elem?}
use prog.Atomic.{either}
use Rattle.std.specs.List.{sum_by}
use Rattle.std.proofs.lemmas.List.{length-set, get_or-set_same}
use Rattle.std.proofs.lemmas.Bool.{eqb-true}
use Rattle.std.proofs.lemmas.Bool.Decides.{nat_tests}
use Rattle.std.proofs.lemmas.List.Sums.{sum_by-cons, sum_by-append, sum_by_push}
use Rattle.atomic_table.specs.Table.{State, Me, step, stepped, carried_after, Valid, Allows, Splits, Joins, Final, Seen, Act, keeps}
use Rattle.atomic_table.proofs.Lists.{at_set, at_snoc, set_else}
use Rattle.parallel_map.specs.declared.rule.View.{View}
use Rattle.parallel_map.specs.Claiming.{all_parts, view, times, once_below, EachOnce, Claimed, Kept, Drew, Draws, joined}

-- The sum over the views after a change of one.
sum_set : (f : View → ℕ) (views : List View) (seat : ℕ) (v w : View) → get_elem? views seat ≡ some v → sum_by f (set views seat w) + f v ≡ sum_by f views + f w
sum_set f [] seat v w at = absurd (some-ne-none v (sym at))
sum_set f (x ∷ xs) zero v w at = let e = ap f (some-injective x v at) in omega (arith, sum_by-cons f x xs, sum_by-cons f w xs)
sum_set f (x ∷ xs) (suc i) v w at = omega (arith, sum_set f xs i v w at, sum_by-cons f x xs, sum_by-cons f x (set xs i w))

-- One view is part of the sum.
sum_part : (f : View → ℕ) (views : List View) (seat : ℕ) (v : View) → get_elem? views seat ≡ some v → f v ≤ sum_by f views
sum_part f [] seat v at = absurd (some-ne-none v (sym at))
sum_part f (x ∷ xs) zero v at = let e = ap f (some-injective x v at) in omega (arith, sum_by-cons f x xs)
sum_part f (x ∷ xs) (suc i) v at = omega (arith, sum_part f xs i v at, sum_by-cons f x xs)

-- Where g is 0 all over, and f is 0 wherever g is.
sum_none : (f g : View → ℕ) (views : List View) → sum_by g views ≡ 0 → ((seat : ℕ) (v : View) → get_elem? views seat ≡ some v → g v ≡ 0 → f v ≡ 0) → sum_by f views ≡ 0
sum_none f g [] none_g only = refl
sum_none f g (x ∷ xs) none_g only =
    let a = sum_by-cons g x xs in
    let here : g x ≡ 0 = omega arith in
    let rest : sum_by g xs ≡ 0 = omega arith in
    omega (arith, sum_by-cons f x xs, only 0 x refl here, sum_none f g xs rest (λ i v at. only (suc i) v at))

-- Where one view has all of g, and f is 0 wherever g is, that view has all of f.
sum_whole : (f g : View → ℕ) (views : List View) (seat : ℕ) (v : View) → get_elem? views seat ≡ some v → sum_by g views ≡ g v
    → ((seat : ℕ) (v : View) → get_elem? views seat ≡ some v → g v ≡ 0 → f v ≡ 0) → sum_by f views ≡ f v
sum_whole f g [] seat v at all only = absurd (some-ne-none v (sym at))
sum_whole f g (x ∷ xs) zero v at all only =
    let e = ap f (some-injective x v at) in
    let d = ap g (some-injective x v at) in
    let a = sum_by-cons g x xs in
    let rest : sum_by g xs ≡ 0 = omega arith in
    omega (arith, sum_by-cons f x xs, sum_none f g xs rest (λ i v at. only (suc i) v at))
sum_whole f g (x ∷ xs) (suc i) v at all only =
    let a = sum_by-cons g x xs in
    let p = sum_part g xs i v at in
    let here : g x ≡ 0 = omega arith in
    let rest : sum_by g xs ≡ g v = omega arith in
    omega (arith, sum_by-cons f x xs, only 0 x refl here, sum_whole f g xs i v at rest (λ i v at. only (suc i) v at))

-- One more number.
times_next : (x n : ℕ) (xs : List ℕ) → times x (xs ++ n ∷ []) + once_below x n ≡ times x xs + once_below x (n + 1)
times_next x n xs = let p = sum_by_push (λ y. cond (eqb y x) 1 0) xs n in grind (arith, nat_tests)

times_both : (x : ℕ) (xs ys : List ℕ) → times x (xs ++ ys) ≡ times x xs + times x ys
times_both x xs ys = sum_by-append (λ y. cond (eqb y x) 1 0) xs ys

abbrev Idle : List View → Type 0
Idle views = (seat : ℕ) (v : View) → get_elem? views seat ≡ some v → v.parts ≡ 0 → v.numbers ≡ []

abbrev Seeing : ℕ → List View → Type 0
Seeing word views = (seat : ℕ) (v : View) → get_elem? views seat ≡ some v → v.saw ≤ word

idle_set : (views : List View) (id : ℕ) (w : View) → Idle views → (w.parts ≡ 0 → w.numbers ≡ []) → Idle (set views id w)
idle_set views id w idle may seat u at none_u =
    ⊎_elim (λ (t : (seat ≡ id) × (w ≡ u)). subst (λ (y : View). y.parts ≡ 0 → y.numbers ≡ []) t.1 may none_u)
    (λ (t : (seat ≢ id) × (get_elem? views seat ≡ some u)). idle seat u t.1 none_u)
    (at_set views id seat w u at)

seeing_set : (word : ℕ) (views : List View) (id : ℕ) (w : View) → Seeing word views → w.saw ≤ word → Seeing word (set views id w)
seeing_set word views id w seeing may seat u at =
    ⊎_elim (λ (t : (seat ≡ id) × (w ≡ u)). subst (λ (y : View). y.saw ≤ word) t.1 may)
    (λ (t : (seat ≢ id) × (get_elem? views seat ≡ some u)). seeing seat u t.1)
    (at_set views id seat w u at)

idle_push : (views : List View) (w : View) → Idle views → (w.parts ≡ 0 → w.numbers ≡ []) → Idle (views ++ w ∷ [])
idle_push views w idle may seat u at none_u =
    ⊎_elim (λ was. idle seat u was none_u) (λ (t : w ≡ u). subst (λ (y : View). y.parts ≡ 0 → y.numbers ≡ []) t may none_u) (at_snoc views w u seat at)

seeing_push : (word : ℕ) (views : List View) (w : View) → Seeing word views → w.saw ≤ word → Seeing word (views ++ w ∷ [])
seeing_push word views w seeing may seat u at =
    ⊎_elim (λ was. seeing seat u was) (λ (t : w ≡ u). subst (λ (y : View). y.saw ≤ word) t may) (at_snoc views w u seat at)

abbrev counted : ℕ → View → ℕ
counted x v = times x v.numbers

-- The word rises, and the seat has the number.
claims_draw : (count word : ℕ) (views : List View) (id : ℕ) (v : View) → Claimed count word views → get_elem? views id ≡ some v → 0 < v.parts → word < count
    → Claimed count (word + 1) (set views id (view (v.numbers ++ word ∷ []) (word + 1) v.parts))
claims_draw count word views id v k at part below =
    let w : View = view (v.numbers ++ word ∷ []) (word + 1) v.parts in
    record {
      parts = let s = sum_set (λ u. u.parts) views id v w at in let p = k.parts in omega arith;
      idle = idle_set views id w k.idle (λ none_w. absurd (omega arith));
      bounded = omega arith;
      once = λ x. let s = sum_set (counted x) views id v w at in let p = k.once x in let t = times_next x word v.numbers in omega arith;
      seen = seeing_set (word + 1) views id w (λ seat u h. let q = k.seen seat u h in omega arith) (omega arith);
    }

-- The seat saw the word.
claims_look : (count word : ℕ) (views : List View) (id : ℕ) (v : View) → Claimed count word views → get_elem? views id ≡ some v
    → Claimed count word (set views id (view v.numbers word v.parts))
claims_look count word views id v k at =
    let w : View = view v.numbers word v.parts in
    record {
      parts = let s = sum_set (λ u. u.parts) views id v w at in let p = k.parts in omega arith;
      idle = idle_set views id w k.idle (k.idle id v at);
      bounded = k.bounded;
      once = λ x. let s = sum_set (counted x) views id v w at in let p = k.once x in omega arith;
      seen = seeing_set word views id w k.seen (omega arith);
    }

claims_split : (count word : ℕ) (views : List View) (id : ℕ) (v : View) → Claimed count word views → get_elem? views id ≡ some v → 1 < v.parts
    → Claimed count word (set views id (view v.numbers v.saw (v.parts - 1)) ++ view [] 0 1 ∷ [])
claims_split count word views id v k at parts =
    let w : View = view v.numbers v.saw (v.parts - 1) in
    let u : View = view [] 0 1 in
    let l : List View = set views id w in
    record {
      parts = let s = sum_set (λ u. u.parts) views id v w at in let p = k.parts in let q = sum_by_push (λ (u : View). u.parts) l u in omega arith;
      idle = idle_push l u (idle_set views id w k.idle (λ none_w. absurd (omega arith))) (λ none_u. refl);
      bounded = k.bounded;
      once = λ x. let s = sum_set (counted x) views id v w at in let p = k.once x in let q = sum_by_push (counted x) l u in omega arith;
      seen = seeing_push word l u (seeing_set word views id w k.seen (k.seen id v at)) (omega arith);
    }

claims_join : (count word : ℕ) (views : List View) (id : ℕ) (v : View) (other : ℕ) (w : View) → Claimed count word views → get_elem? views id ≡ some v
    → ¬ (other ≡ id) → get_elem? (set views id (joined v w)) other ≡ some w
    → Claimed count word (set (set views id (joined v w)) other (view [] 0 0))
claims_join count word views id v other w k at apart at_w =
    let u : View = joined v w in
    let spent : View = view [] 0 0 in
    let l : List View = set views id u in
    let was : get_elem? views other ≡ some w = sym (set_else views id other u apart) ∙ at_w in
    record {
      parts = let s = sum_set (λ u. u.parts) views id v u at in let p = k.parts in let q = sum_set (λ u. u.parts) l other w spent at_w in omega arith;
      idle = idle_set l other spent
          (idle_set views id u k.idle (λ none_u. let a : v.numbers ≡ [] = k.idle id v at (omega arith) in let b : w.numbers ≡ [] = k.idle other w was (omega arith) in rw (a, b) refl))
          (λ none_s. refl);
      bounded = k.bounded;
      once = λ x.
          let s = sum_set (counted x) views id v u at in let p = k.once x in let q = sum_set (counted x) l other w spent at_w in let t = times_both x v.numbers w.numbers in omega arith;
      seen = let a = k.seen id v at in let b = k.seen other w was in seeing_set word l other spent (seeing_set word views id u k.seen (omega arith)) (omega arith);
    }

-- The seat that has all parts has all numbers.
pub whole : (count : ℕ) (s : State ℕ View) (id : ℕ) (v : View) → Kept count s → get_elem? s.views id ≡ some v → v.parts ≡ all_parts → EachOnce (slice_index s.words 0) v.numbers
whole count s id v k at all =
    let p = k.claimed.parts in
    let parts : sum_by (λ (u : View). u.parts) s.views ≡ v.parts = omega arith in
    record { each = λ x. sym (sum_whole (counted x) (λ u. u.parts) s.views id v at parts (λ seat u h none_u. ap (times x) (k.claimed.idle seat u h none_u))) ∙ k.claimed.once x }

draws_at : (count id : ℕ) (v : Me ℕ View) (saw : ℕ) (s : State ℕ View) → 0 < v.0.parts → v.0.saw ≡ saw → saw < count → Kept count s → get_elem? s.views id ≡ some v.0
    → (n : ℕ) → slice_index s.words 0 ≡ n → (b : Bool) → eqb n saw ≡ b
    → (w : View) × (a : Act ℕ) × Valid s.homes v.1 a × Kept count (stepped s 0 (either b (saw + 1) n) id v.1 w a) × (Drew b saw n v.0 w × (carried_after v.1 a ≡ v.1))
draws_at count id v saw s part is below kept at n word true e =
    let here : n ≡ saw = eqb-true n saw e in
    let w : View = view (v.0.numbers ++ saw ∷ []) (saw + 1) v.0.parts in
    let room : 0 < length s.words = let o = kept.one_word in omega arith in
    let at_word : slice_index (set s.words 0 (saw + 1)) 0 ≡ saw + 1 = get_or-set_same s.words 0 (saw + 1) 0 room in
    let k : Claimed count saw s.views = subst (λ m. Claimed count m s.views) (word ∙ here) kept.claimed in (
      w,
      keeps,
      tt,
      record { one_word = length-set s.words 0 (saw + 1) ∙ kept.one_word; claimed = subst (λ m. Claimed count m (set s.views id w)) (sym at_word) (claims_draw count saw s.views id v.0 k at part below) },
      (refl, refl),
    )
draws_at count id v saw s part is below kept at n word false e =
    let seen : v.0.saw ≤ slice_index s.words 0 = kept.claimed.seen id v.0 at in
    let above : saw < n = grind (arith, nat_tests) in
    let w : View = view v.0.numbers n v.0.parts in
    let room : 0 < length s.words = let o = kept.one_word in omega arith in
    let at_word : slice_index (set s.words 0 n) 0 ≡ n = get_or-set_same s.words 0 n 0 room in
    let k : Claimed count n s.views = subst (λ m. Claimed count m s.views) word kept.claimed in (
      w,
      keeps,
      tt,
      record { one_word = length-set s.words 0 n ∙ kept.one_word; claimed = subst (λ m. Claimed count m (set s.views id w)) (sym at_word) (claims_look count n s.views id v.0 k at) },
      ((refl, above), refl),
    )

pub draws : (count slots id : ℕ) (v : Me ℕ View) (saw : ℕ) → 0 < v.0.parts → v.0.saw ≡ saw → saw < count
    → Allows (Kept count) slots id v 0 (λ n. either (n == saw) (saw + 1) n) (Draws (step slots 0 saw (saw + 1) none) v)
draws count slots id v saw part is below s kept homes at fits = draws_at count id v saw s part is below kept at (slice_index s.words 0) refl (eqb (slice_index s.words 0) saw) refl

pub splits : (count id : ℕ) (v : View) → 1 < v.parts → Splits (Kept count) id v (view v.numbers v.saw (v.parts - 1)) (view [] 0 1)
splits count id v parts s kept at = record { one_word = kept.one_word; claimed = claims_split count _ s.views id v kept.claimed at parts }

pub joins : (count id : ℕ) (v : View) (other : ℕ) (w : View) → Joins (Kept count) id v other w (joined v w) (view [] 0 0)
joins count id v other w s kept at apart at_w = record { one_word = kept.one_word; claimed = claims_join count _ s.views id v other w kept.claimed at apart at_w }

first_of_words : (ws : List ℕ) (n : ℕ) → get_elem? ws 0 ≡ some n → slice_index ws 0 ≡ n
first_of_words [] n at = absurd (some-ne-none n (sym at))
first_of_words (w ∷ ws) n at = some-injective w n at

pub closes : (count id : ℕ) (v : View) (ws xs : List ℕ) → Final (Seen (Kept count) id v) ws xs → (n : ℕ) → get_elem? ws 0 ≡ some n → v.parts ≡ all_parts → EachOnce n v.numbers
closes count id v ws xs final n at all =
    let s = final.0 in
    let word : slice_index s.words 0 ≡ n = ap (λ (l : List ℕ). slice_index l 0) final.2 ∙ first_of_words ws n at in
    subst (λ m. EachOnce m v.numbers) word (whole count s id v final.1.0 final.1.1 all)
