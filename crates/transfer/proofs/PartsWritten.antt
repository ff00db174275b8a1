-- Buckets that are written one after the other.
use Rattle.std.proofs.Common.{◌≡◌, ℕ, ◌+◌, ◌<◌, ◌≤◌, List, [], ◌∷◌, ◌++◌, length, get_or, drop, Option, refl, sym, ap, ◌∙◌, add-one, drop-cons, arith}
use Rattle.std.proofs.lemmas.List.{append-nil, drop_all}
use Rattle.transfer.specs.within.Runs.{runs_text}

pub next_kept : (kept : List (Option (List ℕ))) (b place : ℕ) (keep : Option (List ℕ)) → b < length kept → place ≡ b → keep ≡ get_or kept place keep → keep ∷ drop (b + 1) kept ≡ drop b kept
next_kept kept b place keep inside same is =
    ap (λ (k : Option (List ℕ)). k ∷ drop (b + 1) kept) (is ∙ ap (λ i. get_or kept i keep) same) ∙ sym (dropped kept b keep inside)
  where
    dropped : (xs : List (Option (List ℕ))) (i : ℕ) (d : Option (List ℕ)) → i < length xs → drop i xs ≡ get_or xs i d ∷ drop (i + 1) xs
    dropped xs i d inside = rw (add-one, drop-cons xs i d) refl

pub all_written : (kept : List (Option (List ℕ))) (b : ℕ) (written all : List ℕ) (rest : List (List ℕ)) → length kept ≡ 256 → 256 ≤ b → written ++ runs_text b rest (drop b kept) ≡ all → written ≡ all
all_written kept b written all rest size past is =
    let none : drop b kept ≡ [] = drop_all b kept (omega (arith, size, past)) in
    sym (append-nil written) ∙ ap (λ (k : List (Option (List ℕ))). written ++ runs_text b rest k) (sym none) ∙ is
