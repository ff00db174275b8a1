-- Places that are taken out of a list one by one.
use Rattle.std.proofs.Common.{◌≡◌, ℕ, zero, suc, ◌+◌, ◌-◌, ◌<◌, ◌≤◌, Bool, true, false, not, List, [], ◌∷◌, ◌++◌, length, get_or, take, drop, cond, sym, ap, ◌∙◌, subst, arith, length-append, ⊎_elim}
use Rattle.std.proofs.lemmas.Bool.{cases_lt}
use Rattle.std.proofs.lemmas.List.{drop-drop, length-drop, length-take, take-append-drop}
use Rattle.std.proofs.lemmas.List.Edits.{get_or-remove_below, length-remove, remove-append_right}
use Rattle.std.specs.List.{filter, remove, remove_range}
use Rattle.node_tables.proofs.Sendings.{all_stay}

-- ---- a range goes, element by element

module _ {X : Type 0} (xs : List X) (s : ℕ) where
  pub one_removed : remove xs s ≡ remove_range xs s (s + 1)
  one_removed = let on : suc s ≡ s + 1 = omega arith in ap (λ k. take s xs ++ drop k xs) on

  pub cut_none : xs ≡ remove_range xs s (s + 0)
  cut_none = let on : s ≡ s + 0 = omega arith in sym (take-append-drop s xs) ∙ ap (λ k. take s xs ++ drop k xs) on

  pub cut_length : (k : ℕ) → s + k ≤ length xs → length (remove_range xs s (s + k)) ≡ length xs - k
  cut_length k inside = omega (arith, inside, length-append (take s xs) (drop (s + k) xs), length-take s xs, length-drop (s + k) xs)

  pub cut_more : (k : ℕ) → s + k < length xs → remove (remove_range xs s (s + k)) s ≡ remove_range xs s (s + (k + 1))
  cut_more k inside =
      let front : length (take s xs) ≡ s = omega (arith, inside, length-take s xs) in
      let none : s - s ≡ 0 = omega arith in
      let on : s + k + 1 ≡ s + (k + 1) = omega arith in
      remove-append_right (take s xs) (drop (s + k) xs) s s front (omega arith)
      ∙ ap (λ i. take s xs ++ remove (drop (s + k) xs) i) none
      ∙ ap (λ l. take s xs ++ l) (drop-drop 1 (s + k) xs)
      ∙ ap (λ i. take s xs ++ drop i xs) on

-- ---- those that pass a test go, one by one

module _ {X : Type 0} (p : X → Bool) where
  pub not_passing : (xs : List X) (i : ℕ) → i < length xs → ((d : X) → p (get_or xs i d) ≡ true) → filter (λ x. not (p x)) (remove xs i) ≡ filter (λ x. not (p x)) xs
  not_passing [] i lt h = absurd (omega (arith, lt))
  not_passing (x ∷ xs) zero lt h = ap (λ b. cond (not b) (x ∷ filter (λ y. not (p y)) xs) (filter (λ y. not (p y)) xs)) (sym (h x))
  not_passing (x ∷ xs) (suc i) lt h = ap (λ l. cond (not (p x)) (x ∷ l) l) (not_passing xs i (omega (arith, lt)) h)

-- What was looked at so far passes not, and what was taken away passed.
pub record Looked {X : Type 0} (p : X → Bool) (old now : List X) (at : ℕ) : Type 0 where
  pub same : filter (λ x. not (p x)) now ≡ filter (λ x. not (p x)) old
  pub stay : (k : ℕ) (d : X) → k < at → p (get_or now k d) ≡ false
  pub within : at ≤ length now

module _ {X : Type 0} (p : X → Bool) (old now : List X) (at : ℕ) (l : Looked p old now at) (inside : at < length now) where
  pub looked_on : ((d : X) → p (get_or now at d) ≡ false) → Looked p old now (at + 1)
  looked_on h = record {
    same = l.same;
    stay = λ k d lt. ⊎_elim
        (λ (first : k < at). l.stay k d first)
        (λ (le : at ≤ k). let is : at ≡ k = omega (arith, le, lt) in subst (λ n. p (get_or now n d) ≡ false) is (h d))
        (cases_lt k at);
    within = omega (arith, inside);
  }

  pub looked_away : ((d : X) → p (get_or now at d) ≡ true) → Looked p old (remove now at) at
  looked_away h = record {
    same = not_passing p now at inside h ∙ l.same;
    stay = λ k d lt. ap p (get_or-remove_below now at d k lt inside) ∙ l.stay k d lt;
    within = omega (arith, length-remove now at inside, inside);
  }

pub looked_all : {X : Type 0} (p : X → Bool) (old now : List X) (at : ℕ) → Looked p old now at → length now ≤ at → now ≡ filter (λ x. not (p x)) old
looked_all p old now at l most = all_stay p now (λ k d lt. l.stay k d (omega (arith, lt, most))) ∙ l.same
