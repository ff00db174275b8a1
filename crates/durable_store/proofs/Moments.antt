-- How runs of device calls go on.
use Rattle.std.proofs.Common.{inl, inr, ⊎_elim, ℕ, List, arith}
use Rattle.journal.specs.Device.{LeavesOnly}

module _ {D : Type 0} (moment : D → ℕ) (left_since : D → ℕ → List ℕ → Type 0) where
  -- before the first call
  pub started : (old : D) (P : List ℕ → Type 0) → ((file : List ℕ) → left_since old (moment old) file → P file) → LeavesOnly moment left_since old old P
  started old P here = record { later = omega arith; each = here; before = λ t file le left. inl left }

  -- a run with a weaker end
  pub weaker : (old new : D) (P R : List ℕ → Type 0) → LeavesOnly moment left_since old new P → ((file : List ℕ) → P file → R file) → LeavesOnly moment left_since old new R
  weaker old new P R run then = record {
    later = run.later;
    each = λ file left. then file (run.each file left);
    before = λ t file le left. ⊎_elim (λ past. inl past) (λ now. inr (then file now)) (run.before t file le left);
  }

  -- one run behind another
  pub behind : (old mid new : D) (R : List ℕ → Type 0) → LeavesOnly moment left_since old mid R → LeavesOnly moment left_since mid new R → LeavesOnly moment left_since old new R
  behind old mid new R first second = record {
    later = omega (arith, first.later, second.later);
    each = λ file left. ⊎_elim (first.each file) (λ now. now) (second.before (moment old) file first.later left);
    before = λ t file le left. ⊎_elim (first.before t file le) (λ now. inr now) (second.before t file (omega (arith, le, first.later)) left);
  }
