-- Segments that a statement was compared with.
use Rattle.std.proofs.Common.{◌≡◌, ℕ, ◌+◌, ◌<◌, ◌≤◌, Bool, true, false, List, length, get_or, refl, sym, subst, ⊎_elim, arith}
use Rattle.std.specs.List.{AllWithin, Contains}
use Rattle.std.proofs.lemmas.Bool.{cases_lt}
use Rattle.std.proofs.lemmas.List.{get_or_default}
use Rattle.std.proofs.lemmas.List.Elements.{Contains-get_or}
use Rattle.authenticators.specs.declared.authenticator.Authenticator.{Authenticator}
use Rattle.evidence_item.specs.Checking.{Checked}
use Rattle.node_tables.specs.declared.span.Span.{Span}
use Rattle.node_tables.specs.Tables.{AreSpans, IsSpan, denies_at}
use Rattle.node_tables.specs.within.Spanning.{IsAround, NoneIsAround}

-- What holds at each place of a list holds of each element.
pub all_hold : {X : Type 0} (P : X → Type 0) (xs : List X) → AllWithin P xs 0 (length xs) → (x : X) → Contains xs x → P x
all_hold P xs all x (k, inside, is) = subst P is (all k x (omega arith) inside)

-- One place more.
pub one_more : {X : Type 0} (P : X → Type 0) (xs : List X) (n : ℕ) → AllWithin P xs 0 n → ((d : X) → P (get_or xs n d)) → AllWithin P xs 0 (n + 1)
one_more P xs n all here k d lo lt = ⊎_elim
    (λ before. all k d lo before)
    (λ le. let at : k ≡ n = omega (arith, lt, le) in subst (λ m. P (get_or xs m d)) (sym at) (here d))
    (cases_lt k n)

-- A segment that is not around the statement's number is not contradicted.
pub not_around : (items : List Checked) (j : ℕ) (a : Authenticator) (p : Span) (from : ℕ) → IsSpan items j p → (p.low ≤ a.seq + 2 → p.low ≤ from) → (IsAround from a.seq p → ⊥) → denies_at items a p.item ≡ false
not_around items j a p from is near none = by_case (denies_at items a p.item) refl
  where
    by_case : (b : Bool) → denies_at items a p.item ≡ b → denies_at items a p.item ≡ false
    by_case true e = let w = is.reach a e in absurd (none (record { low = near w.0; last = w.1 }))
    by_case false e = e

-- The segments from a place on are not contradicted, if that there is not, and none behind it up to those of before is around.
pub undenied_from : (items : List Checked) (j : ℕ) (a : Authenticator) (spans : List Span) (from place before : ℕ) → AreSpans items j spans → ((p : Span) → IsSpan items j p → p.low ≤ a.seq + 2 → p.low ≤ from)
    → ((d : Span) → denies_at items a (get_or spans place d).item ≡ false) → NoneIsAround from a.seq spans (place + 1) before
    → ((k : ℕ) (d : Span) → before ≤ k → k < length spans → denies_at items a (get_or spans k d).item ≡ false)
    → (k : ℕ) (d : Span) → place ≤ k → k < length spans → denies_at items a (get_or spans k d).item ≡ false
undenied_from items j a spans from place before all near here none behind k d le inside = ⊎_elim
    (λ (lt : k < before). ⊎_elim
    (λ (above : place < k). let is = all (get_or spans k d) (Contains-get_or spans k d inside) in not_around items j a (get_or spans k d) from is (near (get_or spans k d) is) (none k d (omega (arith, above)) lt))
    (λ (at : k ≤ place). let same : place ≡ k = omega (arith, at, le) in subst (λ n. denies_at items a (get_or spans n d).item ≡ false) same (here d))
    (cases_lt place k))
    (λ (from_before : before ≤ k). behind k d from_before inside)
    (cases_lt k before)

-- None is, where none up to those of before is around.
pub all_undenied : (items : List Checked) (j : ℕ) (a : Authenticator) (spans : List Span) (from before : ℕ) → AreSpans items j spans → ((p : Span) → IsSpan items j p → p.low ≤ a.seq + 2 → p.low ≤ from)
    → NoneIsAround from a.seq spans 0 before → ((k : ℕ) (d : Span) → before ≤ k → k < length spans → denies_at items a (get_or spans k d).item ≡ false)
    → (p : Span) → Contains spans p → denies_at items a p.item ≡ false
all_undenied items j a spans from before all near none behind p (k, inside, at) = subst (λ (q : Span). denies_at items a q.item ≡ false) at (⊎_elim
    (λ (lt : k < before). let is = all (get_or spans k p) (Contains-get_or spans k p inside) in not_around items j a (get_or spans k p) from is (near (get_or spans k p) is) (none k p (omega arith) lt))
    (λ (from_before : before ≤ k). behind k p from_before inside)
    (cases_lt k before))
