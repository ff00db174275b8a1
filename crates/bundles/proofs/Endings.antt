-- What is left of a text.
use Rattle.std.proofs.Common.{◌≡◌, ◌≤◌, ◌==◌, ℕ, Bool, true, false, cond, List, [], ◌∷◌, length, Err, refl, arith}
use Rattle.std.specs.List.{onto_first, slice_split}
use Rattle.bundles.specs.declared.fault.BundleFault.TheVariants.{BadBundle}
use Rattle.bundles.specs.Grammar.{lines_of, nothing_left}
use Rattle.outcome.proofs.Cuts.{some_parts}

one_behind : (n : ℕ) (parts : List (List ℕ)) → 1 ≤ length parts → nothing_left n ([] ∷ parts) ≡ Err (BadBundle n)
one_behind n [] h = absurd (omega arith)
one_behind n (p ∷ ps) h = refl

begun : (n c : ℕ) (parts : List (List ℕ)) → 1 ≤ length parts → nothing_left n (onto_first c parts) ≡ Err (BadBundle n)
begun n c [] h = absurd (omega arith)
begun n c (p ∷ []) h = refl
begun n c (p ∷ q ∷ more) h = refl

either : (n c : ℕ) (t : Bool) (parts : List (List ℕ)) → 1 ≤ length parts → nothing_left n (cond t ([] ∷ parts) (onto_first c parts)) ≡ Err (BadBundle n)
either n c true parts h = one_behind n parts h
either n c false parts h = begun n c parts h

pub left_over : (n : ℕ) (rest : List ℕ) → (length rest == 0) ≡ false → nothing_left n (lines_of rest) ≡ Err (BadBundle n)
left_over n [] h = absurd cc
left_over n (c ∷ cs) h = either n c (c == 10) (slice_split (λ b. b == 10) cs) (some_parts (λ b. b == 10) cs)
