-- A program of tests: it has one state, and puts nothing out.
use Rattle.std.specs.Prelude.{◌≡◌, ℕ, List, [], ◌∷◌, Option, Some, None, refl}
use Rattle.std.proofs.Common.{lit≤}
use Rattle.replay_verifier.specs.declared.program.Step.{Step}
use Rattle.replay_verifier.specs.Meaning.{Meaning, Happening, Lawful}

abbrev pub idle_step : ℕ → Unit {0} → Happening → Step (Unit {0})
idle_step me s h = record { state = tt; outputs = [] }

-- The state is encoded in no bytes.
abbrev pub idle_of : List ℕ → Option (Unit {0})
idle_of [] = Some tt
idle_of (b ∷ bytes) = None

abbrev pub idling : Meaning (Unit {0})
idling = record { start = λ me. tt; step = idle_step; encode = λ s. []; decode = idle_of }

abbrev pub IsIdle : Unit {0} → Type 0
IsIdle s = Unit {0}

only : (bytes : List ℕ) (s : Unit {0}) → idle_of bytes ≡ Some s → [] ≡ bytes
only [] s e = refl
only (b ∷ bytes) s e = cc e

pub idling_lawful : Lawful IsIdle idling
idling_lawful = record {
  starts = λ me small. tt;
  steps = λ me s h small fits here. tt;
  again = λ s fits. refl;
  only = λ bytes s here e. (tt, only bytes s e);
  short = λ s fits. lit≤ tt;
}
