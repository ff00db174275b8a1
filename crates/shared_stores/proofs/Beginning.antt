-- Passes that are handed out agree with a history without calls.
use Rattle.std.proofs.Common.{◌≡◌, ◌+◌, ◌<◌, ◌==◌, ℕ, zero, suc, cond, ltb, List, [], ◌∷◌, ◌++◌, refl, sym, ap, ◌∙◌, subst, arith}
use Rattle.std.specs.List.{count_by, range_with_len}
use Rattle.std.proofs.lemmas.Bool.Decides.{nat_tests}
use Rattle.std.proofs.lemmas.List.Elements.{All-map, All-nil}
use Rattle.std.proofs.lemmas.List.FromFn.{length-map-range_with_len, map-range_with_len_more}
use Rattle.std.proofs.lemmas.List.Sums.{sum_by_push}
use Rattle.shared_stores.specs.Closing.{Agrees, AllAgree, IsOf, fresh}
use Rattle.shared_stores.specs.Histories.{Notes}

abbrev unused : ℕ → Notes
unused k = record { number = k; calls = [] }

abbrev how_many : ℕ → List Notes → ℕ
how_many k passes = count_by (λ (p : Notes). p.number == k) passes

one_more : (k n : ℕ) → how_many k (fresh n) ≡ cond (ltb k n) 1 0 → how_many k (fresh (n + 1)) ≡ cond (ltb k (n + 1)) 1 0
one_more k n so_far =
    let grown : fresh (n + 1) ≡ fresh n ++ unused n ∷ [] = map-range_with_len_more unused 0 n n (omega arith) in
    let pushed = sum_by_push (λ (p : Notes). cond (p.number == k) 1 0) (fresh n) (unused n) in
    let both : how_many k (fresh (n + 1)) ≡ how_many k (fresh n) + cond (n == k) 1 0 = ap (how_many k) grown ∙ pushed in
    grind (arith, nat_tests)

none_below : (k : ℕ) → cond {A = ℕ} (ltb k 0) 1 0 ≡ 0
none_below k = grind (arith, nat_tests)

each_once : (k n : ℕ) → how_many k (fresh n) ≡ cond (ltb k n) 1 0
each_once k zero = sym (none_below k)
each_once k (suc n) = let e : suc n ≡ n + 1 = omega arith in subst (λ m. how_many k (fresh m) ≡ cond (ltb k m) 1 0) (sym e) (one_more k n (each_once k n))

below_one : (k n a : ℕ) → k < n → a ≡ cond (ltb k n) 1 0 → a ≡ 1
below_one k n a below is = grind (arith, nat_tests)

pub begun : (n : ℕ) → AllAgree n [] (fresh n)
begun n = record {
  all = record { count = length-map-range_with_len unused 0 n; each = λ k below. below_one k n (how_many k (fresh n)) below (each_once k n) };
  agree = All-map (Agrees []) unused (range_with_len 0 n) (λ k d below. refl);
  known = All-nil (IsOf n);
}
