-- Of digests that ascend, the run of a bucket is all of the bucket.
use Rattle.std.proofs.Common.{◌≡◌, ◌==◌, ◌≤◌, ◌<◌, ℕ, suc, Bool, true, false, cond, List, [], ◌∷◌, ◌++◌, refl, sym, ap, ◌∙◌, arith}
use Rattle.std.specs.List.{AllByRecursion}
use Rattle.std.specs.List.Sorted.{IsStrictlySortedBy}
use Rattle.std.specs.Ordering.{MatchOrdering, is_lt, nat_cmp, ordering_then}
use Rattle.std.specs.Cmp.Lexicographic.{slice_cmp}
use Rattle.std.specs.declared.cmp.Ordering.{Ordering}
use Rattle.std.specs.declared.cmp.Ordering.TheVariants.{Less, Equal, Greater}
use Rattle.std.proofs.lemmas.Bool.{eq-eqb, eqb-true, ne_eqb}
use Rattle.std.proofs.lemmas.Cmp.{ranked}
use Rattle.containers.specs.CheckedItems.{is_before}
use Rattle.transfer.specs.Digests.{by_digest, first_byte, in_bucket}
use Rattle.transfer.specs.within.Runs.{after_run, run_of}

-- ---- digests and their buckets

first_step : (o : Ordering) (b c : ℕ) (rest : Ordering) → MatchOrdering o (b < c) (b ≡ c) (c < b) → is_lt (ordering_then o rest) ≡ true → b ≤ c
first_step Less b c rest m h = omega (arith, m)
first_step Equal b c rest m h = omega (arith, m)
first_step Greater b c rest m h = absurd cc

-- a digest above another stands in no lower bucket
pub first_le : (d e : List ℕ) → is_before d e ≡ true → first_byte d ≤ first_byte e
first_le [] e h = omega arith
first_le (b ∷ d) [] h = absurd cc
first_le (b ∷ d) (c ∷ e) h = first_step (nat_cmp b c) b c (slice_cmp nat_cmp d e) (ranked b c (nat_cmp b c) refl) h

past : (b : ℕ) (d : List ℕ) → b ≤ first_byte d → (first_byte d == b) ≡ false → suc b ≤ first_byte d
past b d low is = let other : first_byte d ≡ b → ⊥ = λ same. let yes = eq-eqb (first_byte d) b same in absurd cc in omega (arith, low, other)

-- those behind a digest stand in no lower bucket
pub chain_from : (k : ℕ) (d : List ℕ) (ds : List (List ℕ)) → k ≤ first_byte d → AllByRecursion (λ e. by_digest d e ≡ Less) ds → AllByRecursion (λ e. k ≤ first_byte e) ds
chain_from k d [] low less = tt
chain_from k d (e ∷ ds) low less = let next : k ≤ first_byte e = omega (arith, low, first_le d e (ap is_lt less.0)) in (next, chain_from k d ds low less.1)

-- ---- the run, and what follows it

split_at_run : (b : ℕ) (c : Bool) (d : List ℕ) (ds : List (List ℕ)) → run_of b ds ++ after_run b ds ≡ ds → cond c (d ∷ run_of b ds) [] ++ cond c (after_run b ds) (d ∷ ds) ≡ d ∷ ds
split_at_run b true d ds is = ap (λ (l : List (List ℕ)). d ∷ l) is
split_at_run b false d ds is = refl

pub split : (b : ℕ) (ds : List (List ℕ)) → run_of b ds ++ after_run b ds ≡ ds
split b [] = refl
split b (d ∷ ds) = split_at_run b (first_byte d == b) d ds (split b ds)

-- digests of later buckets are not in this one
none_in : (b : ℕ) (ds : List (List ℕ)) → AllByRecursion (λ d. suc b ≤ first_byte d) ds → in_bucket b ds ≡ []
none_in b [] above = refl
none_in b (d ∷ ds) above = let other : (first_byte d == b) ≡ false = ne_eqb (first_byte d) b (λ is. omega (arith, is, above.0)) in rw other (none_in b ds above.1)

run_step : (b : ℕ) (c : Bool) (d : List ℕ) (ds : List (List ℕ)) → (first_byte d == b) ≡ c → b ≤ first_byte d → AllByRecursion (λ e. by_digest d e ≡ Less) ds → run_of b ds ≡ in_bucket b ds → cond c (d ∷ run_of b ds) [] ≡ cond c (d ∷ in_bucket b ds) (in_bucket b ds)
run_step b true d ds is low less same = ap (λ (l : List (List ℕ)). d ∷ l) same
run_step b false d ds is low less same = sym (none_in b ds (chain_from (suc b) d ds (past b d low is) less))

-- the run of the first bucket that there is, is all of it
pub run_is_bucket : (b : ℕ) (ds : List (List ℕ)) → IsStrictlySortedBy by_digest ds → AllByRecursion (λ d. b ≤ first_byte d) ds → run_of b ds ≡ in_bucket b ds
unfolding IsStrictlySortedBy
run_is_bucket b [] up low = refl
run_is_bucket b (d ∷ ds) up low = run_step b (first_byte d == b) d ds refl low.0 up.0 (run_is_bucket b ds up.1 low.1)

after_step : (b : ℕ) (c : Bool) (d : List ℕ) (ds : List (List ℕ)) → (first_byte d == b) ≡ c → b ≤ first_byte d → AllByRecursion (λ e. by_digest d e ≡ Less) ds → AllByRecursion (λ e. suc b ≤ first_byte e) (after_run b ds) → AllByRecursion (λ e. suc b ≤ first_byte e) (cond c (after_run b ds) (d ∷ ds))
after_step b true d ds is low less more = more
after_step b false d ds is low less more = let above = past b d low is in (above, chain_from (suc b) d ds above less)

pub after_from : (b : ℕ) (ds : List (List ℕ)) → IsStrictlySortedBy by_digest ds → AllByRecursion (λ d. b ≤ first_byte d) ds → AllByRecursion (λ d. suc b ≤ first_byte d) (after_run b ds)
unfolding IsStrictlySortedBy
after_from b [] up low = tt
after_from b (d ∷ ds) up low = after_step b (first_byte d == b) d ds refl low.0 up.0 (after_from b ds up.1 low.1)

sorted_step : (b : ℕ) (c : Bool) (d : List ℕ) (ds : List (List ℕ)) → IsStrictlySortedBy by_digest (d ∷ ds) → IsStrictlySortedBy by_digest (after_run b ds) → IsStrictlySortedBy by_digest (cond c (after_run b ds) (d ∷ ds))
sorted_step b true d ds up more = more
sorted_step b false d ds up more = up

after_sorted : (b : ℕ) (ds : List (List ℕ)) → IsStrictlySortedBy by_digest ds → IsStrictlySortedBy by_digest (after_run b ds)
unfolding IsStrictlySortedBy
after_sorted b [] up = up
after_sorted b (d ∷ ds) up = sorted_step b (first_byte d == b) d ds up (after_sorted b ds up.1)

-- what follows has all of each later bucket
others_step : (b c : ℕ) (t : Bool) (d : List ℕ) (ds : List (List ℕ)) → (first_byte d == b) ≡ t → suc b ≤ c → in_bucket c (after_run b ds) ≡ in_bucket c ds → in_bucket c (cond t (after_run b ds) (d ∷ ds)) ≡ in_bucket c (d ∷ ds)
others_step b c true d ds is later same =
    let here : first_byte d ≡ b = eqb-true (first_byte d) b is in
    let other : (first_byte d == c) ≡ false = ne_eqb (first_byte d) c (λ at. omega (arith, at, here, later)) in
    rw other same
others_step b c false d ds is later same = refl

pub others_same : (b c : ℕ) (ds : List (List ℕ)) → suc b ≤ c → in_bucket c (after_run b ds) ≡ in_bucket c ds
others_same b c [] later = refl
others_same b c (d ∷ ds) later = others_step b c (first_byte d == b) d ds refl later (others_same b c ds later)

-- ---- bucket after bucket

-- The rest of digests that ascend: those of the buckets from b on.
pub record IsFrom (b : ℕ) (digests rest : List (List ℕ)) : Type 0 where
  pub ascending : IsStrictlySortedBy by_digest rest
  pub from : AllByRecursion (λ d. b ≤ first_byte d) rest
  pub same : (c : ℕ) → b ≤ c → in_bucket c rest ≡ in_bucket c digests

pub all_low : (ds : List (List ℕ)) → AllByRecursion (λ d. 0 ≤ first_byte d) ds
all_low [] = tt
all_low (d ∷ ds) = (omega arith, all_low ds)

pub all_of_them : (digests : List (List ℕ)) → IsStrictlySortedBy by_digest digests → IsFrom 0 digests digests
all_of_them digests up = record { ascending = up; from = all_low digests; same = λ c later. refl }

pub run_here : (b : ℕ) (digests rest : List (List ℕ)) → IsFrom b digests rest → run_of b rest ≡ in_bucket b digests
run_here b digests rest h = run_is_bucket b rest h.ascending h.from ∙ h.same b (omega arith)

pub from_next : (b : ℕ) (digests rest : List (List ℕ)) → IsFrom b digests rest → IsFrom (suc b) digests (after_run b rest)
from_next b digests rest h = record {
  ascending = after_sorted b rest h.ascending;
  from = after_from b rest h.ascending h.from;
  same = λ c later. others_same b c rest later ∙ h.same c (omega (arith, later));
}
