-- What is found at a place among numbers that rise.
use Rattle.std.proofs.Common.{◌≡◌, ℕ, zero, suc, Some, None, Result, Ok, Err, cond, ◌+◌, ◌-◌, ◌<◌, ◌≤◌, ◌⊎◌, Bool, true, false, eqb, ltb, leb, List, [], ◌∷◌, length, take, drop, get_or, refl, sym, ap, ◌∙◌, arith, inl, inr}
use Rattle.std.specs.Prelude.{◌&&◌, IfSome, is_some, slice_get}
use Rattle.std.specs.List.Sorted.{IsBinarySearchResult, IsNonDecreasingBy, IsSearchInRange}
use Rattle.std.specs.Ordering.{nat_cmp, ordering_index}
use Rattle.std.specs.Result.{result_ok}
use Rattle.std.proofs.lemmas.Bool.{cases_lt, ltb-true, lt-ltb, le-ltb, le-leb, lt-leb, eq-eqb, ne_eqb, and_from, and_left, and_right}
use Rattle.std.proofs.lemmas.Bool.Decides.{nat_tests}
use Rattle.std.proofs.lemmas.Cmp.{ranked}
use Rattle.std.proofs.lemmas.List.{length-drop, length-take-le}
use Rattle.log_chain.specs.declared.entry.Entry.{Entry}
use Rattle.log_chain.specs.Chain.{Rising, chain_end}
use Rattle.log_chain.specs.declared.fault.AppendFault.{AppendFault}
use Rattle.log_chain.specs.declared.fault.AppendFault.TheVariants.{SeqNotRising, ContentTooLong, Memory}
use Rattle.log_chain.specs.History.{History, StandsAt, most_content, last_entry, is_above, append_fault, below, up_to, between, has_seq, hash_at}
use Rattle.log_chain.specs.within.Places.{IsCut}
use Rattle.log_chain.proofs.Rises.{rising_pairs, filter-part, list_any-none, list_any-some}

nobody : Entry
nobody = record { seq = 0; kind = 0; content = [] }

-- the numbers before that of the entry at a place, and those from it on
before : (es : List Entry) (seq i : ℕ) → Rising es → StandsAt es seq i → (k : ℕ) (d : Entry) → k < i → (get_or es k d).seq < seq
before es seq i h stands k d lt = let up = rising_pairs es h k i d lt stands.within in let is = stands.is d in omega arith

from_on : (es : List Entry) (seq i : ℕ) → Rising es → StandsAt es seq i → (k : ℕ) (d : Entry) → i ≤ k → k < length es → seq ≤ (get_or es k d).seq
from_on es seq i h stands k d le l =
    elim (cases_lt i k) [
      | inl lt ↦ let up = rising_pairs es h i k d lt l in let is = stands.is d in omega arith
      | inr ge ↦ let same : k ≡ i = omega arith in rw (same, stands.is d) (omega arith)
    ]

-- those after it, and those up to it
after : (es : List Entry) (seq i : ℕ) → Rising es → StandsAt es seq i → (k : ℕ) (d : Entry) → i < k → k < length es → seq < (get_or es k d).seq
after es seq i h stands k d lt l = let up = rising_pairs es h i k d lt l in let is = stands.is d in omega arith

up_to_it : (es : List Entry) (seq i : ℕ) → Rising es → StandsAt es seq i → (k : ℕ) (d : Entry) → k < i + 1 → (get_or es k d).seq ≤ seq
up_to_it es seq i h stands k d lt =
    elim (cases_lt k i) [
      | inl less ↦ let low = before es seq i h stands k d less in omega arith
      | inr ge ↦ let same : k ≡ i = omega arith in rw (same, stands.is d) (omega arith)
    ]

-- ---- a binary search

-- the comparisons with a number rise, as the search asks
comparisons_rise : (es : List Entry) (seq : ℕ) → Rising es → IsNonDecreasingBy (λ e. ordering_index (nat_cmp e.seq seq)) es
comparisons_rise es seq h i j d le within =
    elim (cases_lt i j) [
      | inl lt ↦ let up = rising_pairs es h i j d lt within in grind (arith, nat_tests)
      | inr ge ↦ let same : i ≡ j = omega arith in rw same (omega arith)
    ]

-- Some exactly where an entry has the number, and then its place
pub searched : (es : List Entry) (seq : ℕ) (r : Result ℕ ℕ) → Rising es → IsSearchInRange r (length es) → IsBinarySearchResult (λ e. nat_cmp e.seq seq) es r
    → (is_some (result_ok r) ≡ has_seq seq es) × IfSome (result_ok r) (λ place. StandsAt es seq place)
searched es seq (Ok at) h within equal = (sym (list_any-some (λ e. eqb e.seq seq) es at nobody within (eq-eqb _ _ (is nobody))), record { within = within; is = is })
  where
    is : (d : Entry) → (get_or es at d).seq ≡ seq
    is d = ranked _ seq _ (sym (equal d))
searched es seq (Err at) h within parted = (sym (list_any-none (λ e. eqb e.seq seq) es (λ k d l. ne_eqb _ _ (λ same. away k d l same (cases_lt k at)))), tt)
  where
    away : (k : ℕ) (d : Entry) → k < length es → (get_or es k d).seq ≡ seq → (k < at) ⊎ (at ≤ k) → ⊥
    away k d l same (inl lt) = let low : (get_or es k d).seq < seq = ranked _ seq _ (sym ((parted (comparisons_rise es seq h)).0 k d (omega arith) lt)) in omega arith
    away k d l same (inr ge) = let high : seq < (get_or es k d).seq = ranked _ seq _ (sym ((parted (comparisons_rise es seq h)).1 k d ge l)) in omega arith

-- ---- what stands before a place, and between two

-- what stands below a number that an entry has
pub below-place : (es : List Entry) (seq i : ℕ) → Rising es → StandsAt es seq i → below seq es ≡ take i es
below-place es seq i h stands =
    let whole : i - 0 ≡ i = omega arith in
    let within = stands.within in
    let part = filter-part (λ e. ltb e.seq seq) es 0 i (omega arith) (omega arith) (λ k d no_k. absurd (omega arith)) (λ k d low lt. lt-ltb _ _ (before es seq i h stands k d lt)) (λ k d le l. le-ltb _ _ (from_on es seq i h stands k d le l)) in
    rw whole at part

-- what stands up to it
pub up_to-place : (es : List Entry) (seq i : ℕ) → Rising es → StandsAt es seq i → up_to seq es ≡ take (i + 1) es
up_to-place es seq i h stands =
    let whole : i + 1 - 0 ≡ i + 1 = omega arith in
    let within = stands.within in
    let part = filter-part (λ e. leb e.seq seq) es 0 (i + 1) (omega arith) (omega arith) (λ k d no_k. absurd (omega arith)) (λ k d low lt. le-leb _ _ (up_to_it es seq i h stands k d lt)) (λ k d le l. lt-leb _ _ (after es seq i h stands k d (omega arith) l)) in
    rw whole at part

-- the first of two numbers stands no later than the second
first_is_first : (es : List Entry) (from to i j : ℕ) → Rising es → StandsAt es from i → StandsAt es to j → from ≤ to → i ≤ j
first_is_first es from to i j h first last le =
    elim (cases_lt j i) [
      | inl lt ↦ let low = before es from i h first j nobody lt in let is = last.is nobody in absurd (omega arith)
      | inr ge ↦ ge
    ]

-- what stands between two numbers that entries have
pub cut : (es : List Entry) (from to i j : ℕ) → Rising es → StandsAt es from i → StandsAt es to j → from ≤ to → IsCut es from to i (j + 1)
cut es from to i j h first last le =
    let within = last.within in
    let start : i ≤ j = first_is_first es from to i j h first last le in
    record {
      order = omega arith;
      bound = omega arith;
      before = below-place es from i h first;
      within = filter-part (λ e. leb from e.seq && leb e.seq to) es i (j + 1) (omega arith) (omega arith)
          (λ k d lt. and_left _ _ (lt-leb _ _ (before es from i h first k d lt)))
          (λ k d low lt. and_from _ _ (le-leb _ _ (from_on es from i h first k d low (omega arith))) (le-leb _ _ (up_to_it es to j h last k d lt)))
          (λ k d past l. and_right _ _ (lt-leb _ _ (after es to j h last k d (omega arith) l)));
    }

-- how many they are
pub cut_len : (es : List Entry) (from to i j : ℕ) → IsCut es from to i j → length (between from to es) ≡ j - i
cut_len es from to i j c =
    let order = c.order in
    let bound = c.bound in
    ap length c.within ∙ length-take-le (j - i) (drop i es) (omega (arith, length-drop i es))

-- no entry, no hash
pub hash_none : (h : History) (seq : ℕ) → false ≡ has_seq seq h.entries → None ≡ hash_at h seq
unfolding hash_at
hash_none h seq has = rw (← has) refl

-- the hash of the entry at a place
pub hash_some : (h : History) (seq i : ℕ) → true ≡ has_seq seq h.entries → Rising h.entries → StandsAt h.entries seq i → Some (chain_end h.prev (take (i + 1) h.entries)) ≡ hash_at h seq
unfolding hash_at
hash_some h seq i has up stands = rw (← has, up_to-place h.entries seq i up stands) refl

-- ---- the last entry

-- an element within a list
slice_get_within : (es : List Entry) (k : ℕ) (d : Entry) → k < length es → slice_get es k ≡ Some (get_or es k d)
slice_get_within [] k d within = absurd (omega arith)
slice_get_within (e ∷ es) zero d within = refl
slice_get_within (e ∷ es) (suc k) d within = slice_get_within es k d (omega arith)

-- an entry that is allowed is above the last one
pub allowed_above : (es : List Entry) (e : Entry) → append_fault es e ≡ None → (k : ℕ) (d : Entry) → k + 1 ≡ length es → (get_or es k d).seq < e.seq
unfolding append_fault
allowed_above es e none k d is =
    let place : length es - 1 ≡ k = omega arith in
    let at : last_entry es ≡ Some (get_or es k d) = ap (slice_get es) place ∙ slice_get_within es k d (omega arith) in
    let tested = rw at at none in
    go (ltb (get_or es k d).seq e.seq) refl tested
  where
    go : (b : Bool) → b ≡ ltb (get_or es k d).seq e.seq → cond b (cond (ltb most_content (length e.content)) (Some ContentTooLong) None) (Some SeqNotRising) ≡ None → (get_or es k d).seq < e.seq
    go true is_below passed = ltb-true _ _ (sym is_below)
    go false is_below passed = absurd cc

-- a fault of an entry is not want of memory
pub fault_of_entry : (es : List Entry) (e : Entry) (f : AppendFault) → append_fault es e ≡ Some f → f ≡ Memory → ⊥
unfolding append_fault
fault_of_entry es e f is memory = go (is_above e.seq (last_entry es)) (ltb most_content (length e.content)) is
  where
    go : (a b : Bool) → cond a (cond b (Some ContentTooLong) None) (Some SeqNotRising) ≡ Some f → ⊥
    go false b s = cc
    go true true s = cc
    go true false s = cc
