-- What `bundle` makes of a directory and a proof in files, and when it makes none.
use Rattle.std.specs.Prelude.{ℕ, ◌≡◌, ◌⊎◌, List, Option, Some, None}
use Rattle.replay_verifier.specs.Meaning.{Meaning}
use Rattle.bundling.specs.declared.fault.MakeFault.{MakeFault}
use Rattle.bundling.specs.declared.fault.MakeFault.TheVariants as making
use Rattle.bundling.specs.declared.fault.TextFault.{TextFault}
use Rattle.bundling.specs.declared.fault.TextFault.TheVariants as text
use Rattle.bundling.specs.Handing.{IsMade, RefusesMaking}
use Rattle.commands.specs.declared.fault.Fault.{Fault}
use Rattle.commands.specs.declared.fault.Fault.TheVariants as fault
use Rattle.commands.specs.Refusals.{of_directory, of_proof, of_reading}
use Rattle.operating.specs.declared.refusal.Refusal.{Refusal}
use Rattle.operating.specs.FileTexts.{IsUnsaid, Says}
use Rattle.operating.specs.GatheredFiles.{IsOfFile}
use Rattle.bulwynef.specs.declared.unbundled.Refused.{Refused}
use Rattle.bulwynef.specs.declared.unbundled.Refused.TheVariants as refused

-- The fault of an engine's refusal, or None if the refusal is not an engine's.
abbrev pub engine_fault : Refused → Option Fault
engine_fault (refused.Engine r) = Some r.fault
engine_fault _ = None

-- The text is the bundle of the directory that file 0 says and the proof that file 1 says.
pub record AreHanded {S : Type 0} (program : Meaning S) (name more : List ℕ) (limit : ℕ) (files : ℕ → Option (List ℕ)) (text : List ℕ) : Type 0 where
  pub directory : List ℕ
  pub proof : List ℕ
  pub first : Says limit None (files 0) directory
  pub second : Says limit None (files 1) proof
  pub made : IsMade program name directory proof more text

-- The fault by which it is reported that texts convict nobody. `file_of` is the number of the file at fault, and `IsTold` says that a refusal
-- has both.
abbrev pub fault_of : TextFault → Fault
fault_of (text.Directory f) = of_directory f
fault_of (text.Spelling f) = of_reading f
fault_of (text.Proof f) = of_proof f
fault_of text.Memory = fault.Memory

abbrev pub file_of : TextFault → Option ℕ
file_of (text.Directory f) = Some 0
file_of (text.Spelling f) = Some 1
file_of (text.Proof f) = Some 1
file_of text.Memory = None

abbrev pub IsTold : MakeFault → Refused → Type 0
IsTold (making.Text f) r = (told : Refusal) × (r ≡ refused.Engine told) × (told.fault ≡ fault_of f) × (told.file ≡ file_of f)
IsTold making.BadBundle r = r ≡ refused.Unspelled

-- The refusal of a file that says nothing.
abbrev pub RefusesFile : ℕ → (ℕ → Option (List ℕ)) → ℕ → Refused → Type 0
RefusesFile limit files n r = (told : Refusal) × (r ≡ refused.Engine told) × IsOfFile n told × IsUnsaid limit None (files n) told.fault

-- Why there is no bundle: file 0 says nothing, or else file 1 says nothing, or else no bundle is made of what they say.
abbrev pub RefusesHanding : {S : Type 0} → Meaning S → List ℕ → List ℕ → ℕ → (ℕ → Option (List ℕ)) → Refused → Type 0
RefusesHanding program name more limit files r =
    RefusesFile limit files 0 r
    ⊎ ((directory : List ℕ) × Says limit None (files 0) directory × RefusesFile limit files 1 r)
    ⊎ ((directory proof : List ℕ) × (f : MakeFault) × Says limit None (files 0) directory × Says limit None (files 1) proof × RefusesMaking program name directory proof more f × IsTold f r)
