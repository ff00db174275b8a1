-- Runs of calls, and what a crash leaves of them: what was acknowledged, and nothing that nobody gave.
use Rattle.std.specs.Prelude.{◌≡◌, ℕ, List, [], ◌∷◌, ◌++◌, if◌then◌else◌}
use Rattle.evidence_set.specs.ItemSets.{Items, IsWithin, insert_all}
use Rattle.durable_store.specs.Calls.{Call, Called}
use Rattle.durable_store.specs.Keeping.{IsKept, Keeps, Kept}

-- ---- calls

-- The calls lead from one state of a store to another.
abbrev pub Runs : {D : Type 0} → (D → ℕ) → (D → List ℕ → Type 0) → (D → ℕ → List ℕ → Type 0) → Kept D → List Call → Kept D → Type 0
Runs moment may_leave left_since old [] new = new ≡ old
Runs {D} moment may_leave left_since old (call ∷ calls) new = (mid : Kept D) × Called moment may_leave left_since old call mid × Runs moment may_leave left_since mid calls new

-- The items, together with those of all groups that were acknowledged.
abbrev pub acknowledged : Items → List Call → Items
acknowledged E [] = E
acknowledged E (call ∷ calls) = acknowledged (if call.is_acknowledged then insert_all E call.group else E) calls

-- The items, together with those of all groups that were given.
abbrev pub given : Items → List Call → Items
given E [] = E
given E (call ∷ calls) = given (insert_all E call.group) calls

-- ---- crashes

-- The file keeps each item of A, and none that is not in B.
pub record KeepsBetween (basis : List (List ℕ)) (A B : Items) (file : List ℕ) : Type 0 where
  pub items : Items
  pub keeps : Keeps basis items file
  pub least : IsWithin A items
  pub most : IsWithin items B

-- Some calls were answered, and then others began. A crash at some moment in between, or until the others were answered, leaves a file. The
-- file keeps each item that was acknowledged by the calls before, and none that nobody gave.
abbrev pub CrashesKeepWhatWasAcknowledged : (D : Type 0) → (D → ℕ) → (D → List ℕ → Type 0) → (D → ℕ → List ℕ → Type 0) → Type 0
CrashesKeepWhatWasAcknowledged D moment may_leave left_since =
    (first mid last : Kept D) (before behind : List Call) (file : List ℕ)
    → IsKept may_leave first → Runs moment may_leave left_since first before mid → Runs moment may_leave left_since mid behind last
    → left_since last.device (moment mid.device) file
    → KeepsBetween first.basis (acknowledged first.contents.items before) (given first.contents.items (before ++ behind)) file

-- A file keeps one set of items, so the store that is opened from it has these items.
abbrev pub FilesKeepOneSet : Type 0
FilesKeepOneSet = (basis : List (List ℕ)) (E F : Items) (file : List ℕ) → Keeps basis E file → Keeps basis F file → E ≡ F
