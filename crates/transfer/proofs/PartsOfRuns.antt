-- The buckets of a summary, written run by run, are its buckets.
use Rattle.std.proofs.Common.{◌≡◌, ◌+◌, ◌≤◌, ℕ, zero, suc, List, [], ◌∷◌, ◌++◌, length, get_or, Option, None, Some, refl, sym, ap, subst, ◌∙◌, append_assoc, arith}
use Rattle.std.specs.Prelude.{slice_index_or}
use Rattle.std.specs.List.{AllByRecursion, flat_map}
use Rattle.std.specs.Int.{w64, to_be_bytes}
use Rattle.std.proofs.lemmas.List.Concat.{flat_map-cons}
use Rattle.std.proofs.lemmas.List.Elements.{Contains-get_or, recursion_from_All}
use Rattle.transfer.specs.Digests.{buckets, first_byte, joined, numbers}
use Rattle.transfer.specs.Summaries.{IsSummary, Summary, kept_at}
use Rattle.transfer.specs.SummaryTexts.{part_text, parts_text}
use Rattle.transfer.specs.within.Runs.{after_run, run_of, runs_text}
use Rattle.transfer.proofs.Runs.{IsFrom, all_of_them, from_next, run_here, split}

-- what holds of all holds of the later ones
pub later_all : {X : Type 0} (P : X → Type 0) (xs ys : List X) → AllByRecursion P (xs ++ ys) → AllByRecursion P ys
later_all P [] ys h = h
later_all P (x ∷ xs) ys h = later_all P xs ys h.1

-- no digest of a bucket that is kept is listed
module _ (s : Summary) where
  abbrev AreApart : List (List ℕ) → Type 0
  AreApart ds = AllByRecursion (λ d. kept_at s (first_byte d) ≡ None) ds

  not_here : (b : ℕ) (digest d : List ℕ) → kept_at s b ≡ Some digest → b ≤ first_byte d → kept_at s (first_byte d) ≡ None → suc b ≤ first_byte d
  not_here b digest d at low none =
      let other : first_byte d ≡ b → ⊥ = λ same. let clash : None ≡ Some digest = sym none ∙ ap (λ i. kept_at s i) same ∙ at in absurd cc in
      omega (arith, low, other)

  all_past : (b : ℕ) (digest : List ℕ) (ds : List (List ℕ)) → kept_at s b ≡ Some digest → AllByRecursion (λ d. b ≤ first_byte d) ds → AreApart ds → AllByRecursion (λ d. suc b ≤ first_byte d) ds
  all_past b digest [] at low apart = tt
  all_past b digest (d ∷ ds) at low apart = (not_here b digest d at low.0 apart.0, all_past b digest ds at low.1 apart.1)

  past_kept : (b : ℕ) (digest : List ℕ) (rest : List (List ℕ)) → kept_at s b ≡ Some digest → AreApart rest → IsFrom b s.listed rest → IsFrom (suc b) s.listed rest
  past_kept b digest rest at apart h = record { ascending = h.ascending; from = all_past b digest rest at h.from apart; same = λ c later. h.same c (omega (arith, later)) }

  abbrev part : ℕ → List ℕ
  part b = part_text b s.listed (kept_at s b)

  -- The places of these are those from b on.
  abbrev StandFrom : ℕ → List (Option (List ℕ)) → Type 0
  StandFrom b keeps = (i : ℕ) → slice_index_or keeps i None ≡ kept_at s (b + i)

  stands_here : (b : ℕ) (k : Option (List ℕ)) (keeps : List (Option (List ℕ))) → StandFrom b (k ∷ keeps) → kept_at s b ≡ k
  stands_here b k keeps at = let same : b ≡ b + 0 = omega arith in ap (λ i. kept_at s i) same ∙ sym (at 0)

  stand_next : (b : ℕ) (k : Option (List ℕ)) (keeps : List (Option (List ℕ))) → StandFrom b (k ∷ keeps) → StandFrom (suc b) keeps
  stand_next b k keeps at i = let same : b + suc i ≡ suc b + i = omega arith in at (suc i) ∙ ap (λ j. kept_at s j) same

  runs_from : (n b : ℕ) (rest : List (List ℕ)) (keeps : List (Option (List ℕ))) → AreApart rest → IsFrom b s.listed rest → length keeps ≡ n → StandFrom b keeps → runs_text b rest keeps ≡ flat_map part (numbers b n)
  runs_from zero b rest [] apart h size at = refl
  runs_from zero b rest (k ∷ keeps) apart h size at = absurd (omega (arith, size))
  runs_from (suc n) b rest [] apart h size at = absurd (omega (arith, size))
  runs_from (suc n) b rest (None ∷ keeps) apart h size at =
      let run : List (List ℕ) = run_of b rest in
      let tail : List ℕ = flat_map part (numbers (suc b) n) in
      let later = later_all (λ (d : List ℕ). kept_at s (first_byte d) ≡ None) run (after_run b rest) (subst (λ (l : List (List ℕ)). AreApart l) (sym (split b rest)) apart) in
      let next = runs_from n (suc b) (after_run b rest) keeps later (from_next b s.listed rest h) (omega (arith, size)) (stand_next b None keeps at) in
      ap (λ (l : List ℕ). 0 ∷ to_be_bytes w64 (length run) ++ (joined run ++ l)) next
      ∙ ap (λ (l : List ℕ). 0 ∷ l) (sym (append_assoc (to_be_bytes w64 (length run)) (joined run) tail))
      ∙ ap (λ (r : List (List ℕ)). 0 ∷ ((to_be_bytes w64 (length r) ++ joined r) ++ tail)) (run_here b s.listed rest h)
      ∙ ap (λ (k : Option (List ℕ)). part_text b s.listed k ++ tail) (sym (stands_here b None keeps at))
      ∙ sym (flat_map-cons part b (numbers (suc b) n))
  runs_from (suc n) b rest (Some digest ∷ keeps) apart h size at =
      let tail : List ℕ = flat_map part (numbers (suc b) n) in
      let here : kept_at s b ≡ Some digest = stands_here b (Some digest) keeps at in
      let next = runs_from n (suc b) rest keeps apart (past_kept b digest rest here apart h) (omega (arith, size)) (stand_next b (Some digest) keeps at) in
      ap (λ (l : List ℕ). 1 ∷ digest ++ l) next
      ∙ ap (λ (k : Option (List ℕ)). part_text b s.listed k ++ tail) (sym here)
      ∙ sym (flat_map-cons part b (numbers (suc b) n))

pub runs_are_parts : (s : Summary) → IsSummary s → runs_text 0 s.listed s.kept ≡ parts_text s
unfolding buckets
runs_are_parts s h =
    let apart = recursion_from_All (λ (d : List ℕ). kept_at s (first_byte d) ≡ None) s.listed (λ k d lt. h.apart (get_or s.listed k d) (Contains-get_or s.listed k d lt)) in
    runs_from s 256 0 s.listed s.kept apart (all_of_them s.listed h.digests.ascending) h.size (λ i. let same : i ≡ 0 + i = omega arith in ap (λ j. kept_at s j) same)
