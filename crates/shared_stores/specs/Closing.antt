-- How passes agree with a history.
use Rattle.std.specs.Prelude.{◌≡◌, ◌<◌, ◌==◌, ℕ, List, [], length, All, count_by, filter, map}
use Rattle.std.specs.List.{range_with_len}
use Rattle.shared_stores.specs.declared.fault.CloseFault.{CloseFault}
use Rattle.shared_stores.specs.declared.fault.CloseFault.TheVariants as closing
use Rattle.shared_stores.specs.declared.history.Recorded.{Recorded}
use Rattle.shared_stores.specs.Histories.{Notes}

-- Passes numbered from 0 on, with no calls.
abbrev pub fresh : ℕ → List Notes
fresh n = map (λ k. record { number = k; calls = [] }) (range_with_len 0 n)

-- The passes are those numbered from 0 to n - 1, each once, in any order.
pub record OneEach (n : ℕ) (passes : List Notes) : Type 0 where
  pub count : length passes ≡ n
  pub each : (k : ℕ) → k < n → count_by (λ (p : Notes). p.number == k) passes ≡ 1

-- The calls of one caller in a history, in their order.
abbrev pub calls_of : ℕ → List Recorded → List Recorded
calls_of caller history = filter (λ (r : Recorded). r.caller == caller) history

-- The calls of a pass are just those of its number in the history, in their order.
abbrev pub Agrees : List Recorded → Notes → Type 0
Agrees history p = calls_of p.number history ≡ p.calls

-- The call is of one of the callers.
abbrev pub IsOf : ℕ → Recorded → Type 0
IsOf callers r = r.caller < callers

-- The passes are all there, each agrees with the history, and the history has no other calls.
pub record AllAgree (callers : ℕ) (history : List Recorded) (passes : List Notes) : Type 0 where
  pub all : OneEach callers passes
  pub agree : All (Agrees history) passes
  pub known : All (IsOf callers) history

-- PassMissing says that a pass is missing or is there twice. HistoryMismatch says no more than that the passes are all there.
abbrev pub IsFault : ℕ → List Notes → CloseFault → Type 0
IsFault callers passes closing.PassMissing = ¬ (OneEach callers passes)
IsFault callers passes closing.HistoryMismatch = OneEach callers passes
