-- Passes that agree with a history have its calls, each once.
use Rattle.std.proofs.Common.{◌≡◌, ◌+◌, ◌<◌, ℕ, Bool, true, false, cond, eqb, eq-eqb, List, [], ◌∷◌, length, refl, sym, ap, ◌∙◌, subst, arith}
use Rattle.std.specs.List.{All, Contains, count_by, filter, sum_by}
use Rattle.std.proofs.lemmas.Bool.{eqb-true}
use Rattle.std.proofs.lemmas.Bool.Decides.{nat_tests}
use Rattle.std.proofs.lemmas.List.Elements.{All-contains, All-contains_itself, All-filter, All-head, All-tail, Contains-append_right, filter_passes}
use Rattle.std.proofs.lemmas.List.Sums.{sum_by-cons}
use Rattle.shared_stores.specs.declared.history.Recorded.{Recorded}
use Rattle.shared_stores.specs.Closing.{Agrees, AllAgree, IsOf, OneEach, calls_of}
use Rattle.shared_stores.specs.Histories.{Notes}
use Rattle.shared_stores.specs.HistoryLaws.{PassesShareHistories}
use Rattle.shared_stores.proofs.Beginning.{begun}
use Rattle.shared_stores.proofs.Filtering.{filter_has}

abbrev has_number : ℕ → Notes → Bool
has_number k p = eqb p.number k

-- Some pass has the number.
abbrev Numbered : ℕ → List Notes → Type 0
Numbered k passes = (p : Notes) × Contains passes p × (p.number ≡ k)

numbered_step : (k : ℕ) (p : Notes) (ps : List Notes) (b : Bool) → has_number k p ≡ b → (count_by (has_number k) ps ≡ 1 → Numbered k ps) → cond b 1 0 + count_by (has_number k) ps ≡ 1 → Numbered k (p ∷ ps)
numbered_step k p ps true e go one = (p, (0, omega arith, refl), eqb-true p.number k e)
numbered_step k p ps false e go one = let n = go (omega arith) in (n.0, Contains-append_right (p ∷ []) ps n.0 n.1, n.2)

numbered : (k : ℕ) (passes : List Notes) → count_by (has_number k) passes ≡ 1 → Numbered k passes
numbered k [] one = absurd (omega arith)
numbered k (p ∷ ps) one = numbered_step k p ps (has_number k p) refl (numbered k ps) (sym (sum_by-cons (λ q. cond (has_number k q) 1 0) p ps) ∙ one)

noted : (n : ℕ) (history : List Recorded) (passes : List Notes) (p : Notes) (r : Recorded) → AllAgree n history passes → Contains passes p → Contains p.calls r → Contains history r × (r.caller ≡ p.number)
noted n history passes p r all has own =
    let own_test : Recorded → Bool = λ c. eqb c.caller p.number in
    let agrees : Agrees history p = All-contains (Agrees history) passes p all.agree has in
    let kept : Contains (filter own_test history) r = subst (λ l. Contains l r) (sym agrees) own in (
      All-contains (Contains history) (filter own_test history) r (All-filter own_test (Contains history) history (All-contains_itself history)) kept,
      eqb-true r.caller p.number (All-contains (λ (c : Recorded). own_test c ≡ true) (filter own_test history) r (filter_passes own_test history) kept),
    )

owned : (n : ℕ) (history : List Recorded) (passes : List Notes) (r : Recorded) → AllAgree n history passes → Contains history r → (p : Notes) × Contains passes p × Contains p.calls r
owned n history passes r all has =
    let known : r.caller < n = All-contains (IsOf n) history r all.known has in
    let of = numbered r.caller passes (all.all.each r.caller known) in
    let p : Notes = of.0 in
    let own_test : Recorded → Bool = λ c. eqb c.caller p.number in
    let agrees : Agrees history p = All-contains (Agrees history) passes p all.agree of.1 in
    (p, of.1, subst (λ l. Contains l r) agrees (filter_has own_test history r has (eq-eqb r.caller p.number (sym of.2))))

-- ---- how many

abbrev own_count : List Recorded → Notes → ℕ
own_count history p = length (calls_of p.number history)

count_step : (b c : Bool) (r : Recorded) (own : List Recorded) → b ≡ c → length (cond b (r ∷ own) own) ≡ cond c 1 0 + length own
count_step true true r own e = omega arith
count_step false false r own e = omega arith
count_step true false r own e = absurd cc
count_step false true r own e = absurd cc

same_either_way : (a b : ℕ) → eqb a b ≡ eqb b a
same_either_way a b = grind (arith, nat_tests)

one_more : (r : Recorded) (rest : List Recorded) (passes : List Notes) → sum_by (own_count (r ∷ rest)) passes ≡ count_by (has_number r.caller) passes + sum_by (own_count rest) passes
one_more r rest [] = refl
one_more r rest (p ∷ ps) =
    let e = one_more r rest ps in
    let here = count_step (eqb r.caller p.number) (has_number r.caller p) r (calls_of p.number rest) (same_either_way r.caller p.number) in
    omega (arith, sum_by-cons (own_count (r ∷ rest)) p ps, sum_by-cons (own_count rest) p ps, sum_by-cons (λ q. cond (has_number r.caller q) 1 0) p ps)

none_own : (passes : List Notes) → sum_by (own_count []) passes ≡ 0
none_own [] = refl
none_own (p ∷ ps) = let e = none_own ps in omega (arith, sum_by-cons (own_count []) p ps)

all_own : (n : ℕ) (passes : List Notes) (history : List Recorded) → OneEach n passes → All (IsOf n) history → sum_by (own_count history) passes ≡ length history
all_own n passes [] each known = none_own passes
all_own n passes (r ∷ rest) each known =
    let below : r.caller < n = All-head (IsOf n) r rest known in
    let one = each.each r.caller below in
    let others = all_own n passes rest each (All-tail (IsOf n) r rest known) in
    omega (arith, one_more r rest passes)

lengths_agree : (history : List Recorded) (passes : List Notes) → All (Agrees history) passes → sum_by (λ (p : Notes). length p.calls) passes ≡ sum_by (own_count history) passes
lengths_agree history [] agree = refl
lengths_agree history (p ∷ ps) agree =
    let e = lengths_agree history ps (All-tail (Agrees history) p ps agree) in
    let here = ap length (All-head (Agrees history) p ps agree) in
    omega (arith, sum_by-cons (λ (q : Notes). length q.calls) p ps, sum_by-cons (own_count history) p ps)

pub share : PassesShareHistories
share = record {
  begun = begun;
  noted = noted;
  owned = owned;
  count = λ n history passes all. lengths_agree history passes all.agree ∙ all_own n passes history all.all all.known;
}
