-- The numbers of the passes of a store's two callers, and what is told where all passes are there.
use Rattle.std.proofs.Common.{◌≡◌, ◌∙◌, ◌<◌, ◌==◌, ℕ, zero, suc, true, List, [], ◌∷◌, All, ap, arith, get_or, length, refl, subst, sym}
use Rattle.std.specs.Prelude.{count_by}
use Rattle.shared_stores.specs.declared.fault.CloseFault.{CloseFault}
use Rattle.shared_stores.specs.declared.fault.CloseFault.TheVariants as closing
use Rattle.shared_stores.specs.Closing.{IsFault, OneEach, fresh}
use Rattle.shared_stores.specs.Histories.{Notes}
use Rattle.exchanging.specs.declared.fault.ExchangeFault.{ExchangeFault}
use Rattle.exchanging.specs.declared.fault.ExchangeFault.TheVariants as exchange
use Rattle.exchanging.specs.Passes.{AllGrew}
use Rattle.scenario_run.specs.declared.opening.TheConstants.{CALLERS}
use Rattle.scenario_run.specs.Refusals.{is_close_told, is_exchange_told}
use Rattle.scenario_run.specs.within.Opened.{AreBoth, IsFirst, IsSecond}

abbrev note : ℕ → Notes
note number = record { number = number; calls = [] }

-- those that a store is opened with
pub both_fresh : (passes : List Notes) (first second : Notes) → passes ≡ fresh CALLERS → passes ≡ first ∷ second ∷ [] → AreBoth (first, second)
both_fresh passes first second made is =
    let same : first ∷ second ∷ [] ≡ fresh CALLERS = sym is ∙ made in
    (ap (λ (l : List Notes). (get_or l 0 (note 0)).number) same, ap (λ (l : List Notes). (get_or l 1 (note 0)).number) same)

-- and those that came back from an exchange
pub seconds_stay : (old new : List Notes) → AllGrew old new → All IsSecond old → All IsSecond new
seconds_stay old new grew all k p below =
    let inside : k < length old = omega (arith, below, grew.count) in
    (grew.each k p inside).growth.number ∙ all k p inside

-- are all there,
abbrev tally : ℕ → ℕ → ℕ → ℕ
tally a b k = count_by (λ (p : Notes). p.number == k) (note a ∷ note b ∷ [])

each_of : (a b k : ℕ) → a ≡ 0 → b ≡ 1 → k < CALLERS → tally a b k ≡ 1
each_of a b zero one two below = ap (λ (n : ℕ). tally n b 0) one ∙ ap (λ (n : ℕ). tally 0 n 0) two
each_of a b (suc zero) one two below = ap (λ (n : ℕ). tally n b 1) one ∙ ap (λ (n : ℕ). tally 0 n 1) two
each_of a b (suc (suc k)) one two below = absurd (omega (arith, below))

one_each : (passes : List Notes) (first second : Notes) → passes ≡ first ∷ second ∷ [] → IsFirst first → IsSecond second → OneEach CALLERS passes
one_each passes first second is one two = subst (OneEach CALLERS) (sym is) (record { count = refl; each = λ k below. each_of first.number second.number k one two below })

-- so none is missing where a store is closed,
close_told : (f : CloseFault) (passes : List Notes) → OneEach CALLERS passes → IsFault CALLERS passes f → is_close_told f ≡ true
close_told closing.PassMissing passes all fault = absurd (fault all)
close_told closing.HistoryMismatch passes all fault = refl

pub closed_with_both : (f : CloseFault) (callers : ℕ) (passes : List Notes) (first second : Notes) → callers ≡ CALLERS → passes ≡ first ∷ second ∷ [] → IsFirst first → IsSecond second → IsFault callers passes f → is_close_told f ≡ true
closed_with_both f callers passes first second some is one two fault = close_told f passes (one_each passes first second is one two) (subst (λ (n : ℕ). IsFault n passes f) some fault)

-- and in an exchange there are as many as stores.
pub exchange_told : (f : ExchangeFault) → (f ≡ exchange.BadPasses → ⊥) → is_exchange_told f ≡ true
exchange_told exchange.BadPasses other = absurd (other refl)
exchange_told exchange.PackMissing other = refl
exchange_told exchange.Memory other = refl
