-- A directory and a proof in files, and the first fault in them.
use Rattle.std.specs.Prelude.{ℕ, ◌≡◌, ◌⊎◌, List, Option, None, Ok, Err}
use Rattle.outcome.specs.Outcome.{told_as, Fails}
use Rattle.authenticators.specs.Directory.{Listing}
use Rattle.authenticators.specs.DirectoryText.{directory_of}
use Rattle.replay_verifier.specs.Meaning.{Meaning}
use Rattle.proofs.specs.declared.fault.ProofFault.{ProofFault}
use Rattle.proofs.specs.declared.proof.Parts.{Parts}
use Rattle.proofs.specs.Convicting.{Convicts, Tells}
use Rattle.proofs.specs.ProofTexts.{proof_of}
use Rattle.commands.specs.declared.fault.Fault.{Fault}
use Rattle.commands.specs.declared.fault.Fault.TheVariants as fault
use Rattle.commands.specs.Refusals.{of_proof, of_reading}
use Rattle.operating.specs.declared.refusal.Refusal.{Refusal}
use Rattle.operating.specs.FileTexts.{IsUnsaid, Says, SaysDirectory}
use Rattle.operating.specs.GatheredFiles.{IsOfFile, RefusesDirectory}

-- The text is a proof that convicts the node under the directory.
abbrev pub TextConvicts : {S : Type 0} → Meaning S → Listing → List ℕ → ℕ → Type 0
TextConvicts program ds text node = (parts : Parts) × (proof_of text ≡ Ok parts) × Convicts ds program node parts

-- Why a text convicts nobody: it is no proof, or one that is refused.
abbrev pub RefusesProofText : {S : Type 0} → Meaning S → Listing → List ℕ → Fault → Type 0
RefusesProofText program ds text f =
    Fails fault.Memory f (told_as of_reading (proof_of text))
    ⊎ ((parts : Parts) × (e : ProofFault) × (proof_of text ≡ Ok parts) × Tells ds program parts (Err e) × (f ≡ of_proof e))

-- File 0 says a directory, and file 1 a proof that convicts the node under it.
abbrev pub AreConvicting : {S : Type 0} → Meaning S → ℕ → (ℕ → Option (List ℕ)) → ℕ → Type 0
AreConvicting program limit files node =
    (ds : Listing) × (text : List ℕ) × SaysDirectory limit (files 0) ds × Says limit None (files 1) text × TextConvicts program ds text node

-- The same, with the directory's encoding beside the node.
abbrev pub AreConvictingUnder : {S : Type 0} → Meaning S → ℕ → (ℕ → Option (List ℕ)) → ℕ × List ℕ → Type 0
AreConvictingUnder program limit files found =
    (ds : Listing) × (text : List ℕ) × Says limit None (files 0) found.1 × (directory_of found.1 ≡ Ok ds) × Says limit None (files 1) text × TextConvicts program ds text found.0

-- Why a proof is refused under a directory: its file says nothing, or it says what convicts nobody.
abbrev pub RefusesProof : {S : Type 0} → Meaning S → ℕ → Listing → Option (List ℕ) → Fault → Type 0
RefusesProof program limit ds file f = IsUnsaid limit None file f ⊎ ((text : List ℕ) × Says limit None file text × RefusesProofText program ds text f)

-- The refusal of a directory and a proof: that of the directory, or else that of the proof.
abbrev pub RefusesConviction : {S : Type 0} → Meaning S → ℕ → (ℕ → Option (List ℕ)) → Refusal → Type 0
RefusesConviction program limit files r =
    (IsOfFile 0 r × RefusesDirectory limit (files 0) r.fault)
    ⊎ ((ds : Listing) × SaysDirectory limit (files 0) ds × IsOfFile 1 r × RefusesProof program limit ds (files 1) r.fault)
