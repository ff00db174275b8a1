-- How an importer keeps what it was fed.
use Rattle.std.specs.Prelude.{◌≡◌, ◌<◌, ◌⊎◌, ℕ, List, ◌++◌, length, IfOk, IsOk, Result, Ok, Err}
use Rattle.authenticators.specs.Directory.{Listing}
use Rattle.replay_verifier.specs.Meaning.{Meaning}
use Rattle.containers.specs.declared.fault.ImportFault.{ImportFault}
use Rattle.containers.specs.Feeding.{IsReadUnder}
use Rattle.containers.specs.declared.fault.Cause.TheVariants as cause
use Rattle.containers.specs.Refusals.{fault_at}
use Rattle.evidence.specs.Exports.{magic, old_magic}
use Rattle.evidence.specs.declared.stage.Stage.{Stage}
use Rattle.evidence.specs.declared.stage.Stage.TheVariants as stage

-- The pieces so far, joined, or the fault by which they were refused.
abbrev pub fed_of : {P : Type 0} → Stage P → Result (List ℕ) ImportFault
fed_of (stage.Head head) = Ok head.items
fed_of (stage.Items reading) = reading.fed
fed_of (stage.Refused f) = Err f

-- These are the eight bytes by which the text of a set is known, or was known before.
abbrev pub IsKnown : List ℕ → Type 0
IsKnown tag = (tag ≡ magic) ⊎ (tag ≡ old_magic)

-- The text begins with them.
pub record BeginsWith (tag text : List ℕ) : Type 0 where
  pub rest : List ℕ
  pub is : text ≡ tag ++ rest

-- The eight bytes are not all there; or they are known, and what follows them was read under the directory and the program.
abbrev pub IsStage : {S P : Type 0} → Listing → Meaning S → Stage P → Type 0
IsStage ds program (stage.Head head) = length head.items < 8
IsStage ds program (stage.Items reading) = IsReadUnder ds program reading × IsKnown reading.magic × IfOk reading.fed (BeginsWith reading.magic)
IsStage ds program (stage.Refused f) = Unit {0}

-- The eight bytes are not all there.
abbrev pub IsShort : {P : Type 0} → Stage P → Type 0
IsShort (stage.Head head) = Unit {0}
IsShort (stage.Items reading) = ⊥
IsShort (stage.Refused f) = ⊥

-- Behind these eight bytes: they are known, and were fed; or they are others, which is told.
abbrev pub IsBegun : {P : Type 0} → List ℕ → Stage P → Type 0
IsBegun head (stage.Head h) = ⊥
IsBegun head (stage.Items reading) = IsKnown head × (reading.magic ≡ head) × (reading.fed ≡ Ok head)
IsBegun head (stage.Refused f) = (¬ IsKnown head) × (f ≡ fault_at 0 cause.BadMagic)

-- The head has not eight bytes.
abbrev pub IsOpen : {P : Type 0} → Stage P → Type 0
IsOpen (stage.Head head) = length head.items < 8
IsOpen (stage.Items reading) = Unit {0}
IsOpen (stage.Refused f) = Unit {0}

-- What was fed is a text that goes on, or begins with other bytes.
abbrev pub GoesOn : {P : Type 0} → Stage P → Type 0
GoesOn (stage.Head head) = Unit {0}
GoesOn (stage.Items reading) = IsOk reading.fed
GoesOn (stage.Refused f) = f.cause ≡ cause.BadMagic
