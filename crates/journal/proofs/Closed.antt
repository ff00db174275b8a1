-- Journals whose gate is closed: what a stopped append leaves, and a repair.
use Rattle.std.proofs.Common.{◌≡◌, ℕ, ◌+◌, ◌≤◌, ◌<◌, ◌^◌, List, length, length-take, take, sym, ◌∙◌, ap, subst, arith}
use Rattle.journal.specs.Device.{Torn, Cut, Follows, Only, LeavesOnly}
use Rattle.journal.specs.Journal.{recovered, covered, IsSameToGate, IsClosed, IsSettled}
use Rattle.journal.specs.declared.blocks.TheConstants.{MOST_GROUP}
use Rattle.journal.specs.declared.journal.Journal.{Journal}
use Rattle.journal.proofs.Moments.{started}
use Rattle.journal.proofs.Gate.{Gated, gated_recovered, gated_covered, gated_drop, gated_same, at_rest, torn_same, cut_front, cut_shorter}

-- each outcome of a write behind the gate
pub torn_each : (end n : ℕ) (file : List ℕ) (old new : List ℕ → Type 0) → length file ≡ end + 1 → n ≤ MOST_GROUP → Only file old → Follows (Torn (end + 1) n) old new → (c : List ℕ) → new c → IsSameToGate end file c
torn_each end n file old new long few only follows c left =
    let from = follows c left in
    torn_same end n file c long few (subst (λ d. Torn (end + 1) n d c) (only from.0 from.1) from.2)

-- each outcome of a cut behind it
pub cut_each : (end : ℕ) (file : List ℕ) (old new : List ℕ → Type 0) → end + 1 ≤ length file → ((c : List ℕ) → old c → IsSameToGate end file c) → Follows (Cut (end + 1)) old new → (c : List ℕ) → new c → IsSameToGate end file c
cut_each end file old new le each follows c left =
    let from = follows c left in
    let was = each from.0 from.1 in
    let long : end + 1 ≤ length from.0 = omega (arith, le, ap length was.front, length-take (end + 1) from.0, length-take (end + 1) file) in
    record { front = cut_front (end + 1) from.0 c long from.2 ∙ was.front; behind = omega (arith, was.behind, cut_shorter (end + 1) from.0 c from.2) }

module _ {D : Type 0} (seen : D → List ℕ) (may_leave : D → List ℕ → Type 0) (end : ℕ) (file : List ℕ) (ends : end ≡ covered file) (small : end < 2 ^ 63) (gated : Gated (recovered file) end file) where
  abbrev journal_at : D → Journal D
  journal_at device = record { device = device; end = end }

  -- what is read, and what a crash leaves, is the same to the gate
  pub closed_at : (device : D) → take (end + 1) (seen device) ≡ take (end + 1) file → ((c : List ℕ) → may_leave device c → IsSameToGate end file c) → IsClosed seen may_leave (record { device = device; end = end })
  closed_at device front each =
      let now = gated_same (recovered file) end file gated (seen device) front in
      record {
        end = sym (gated_covered (recovered file) end (seen device) now);
        small = small;
        gate = ap (λ (l : List ℕ). take 1 l) (gated_drop (recovered file) end (seen device) now);
        each = λ c left. let same = each c left in record { front = same.front ∙ sym front; behind = same.behind };
      }

  pub same_at : (device : D) → take (end + 1) (seen device) ≡ take (end + 1) file → recovered (seen device) ≡ recovered file
  same_at device front = gated_recovered (recovered file) end (seen device) (gated_same (recovered file) end file gated (seen device) front)

  -- where nothing stands behind the gate, and all of it is on the disk
  pub settled_at : (device : D) → take (end + 1) (seen device) ≡ take (end + 1) file → length (seen device) ≡ end + 1 → Only (seen device) (may_leave device) → IsSettled seen may_leave (record { device = device; end = end })
  settled_at device front long only =
      let now = gated_same (recovered file) end file gated (seen device) front in
      record { end = sym (gated_covered (recovered file) end (seen device) now); small = small; rest = at_rest (recovered file) end (seen device) now long; durable = only }

-- before the first call, at a moment whose outcomes have P
pub started_at : {D : Type 0} (moment : D → ℕ) (left_since : D → ℕ → List ℕ → Type 0) (may_leave : D → List ℕ → Type 0) (only_now : (file : D) (c : List ℕ) → left_since file (moment file) c → may_leave file c)
    (old : D) (P : List ℕ → Type 0) → ((c : List ℕ) → may_leave old c → P c) → LeavesOnly moment left_since old old P
started_at moment left_since may_leave only_now old P here = started moment left_since old P (λ c left. here c (only_now old c left))
