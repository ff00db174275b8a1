-- Whom the texts of a directory and of a proof convict, and why others convict nobody.
use Rattle.std.specs.Prelude.{◌≡◌, ℕ, List, Ok, Err}
use Rattle.outcome.specs.Outcome.{Fails}
use Rattle.authenticators.specs.Directory.{Listing}
use Rattle.authenticators.specs.DirectoryText.{directory_of}
use Rattle.authenticators.specs.declared.fault.DirectoryFault.TheVariants as listing_fault
use Rattle.item_forms.specs.declared.fault.DecodeFault.TheVariants as decode_fault
use Rattle.replay_verifier.specs.Meaning.{Meaning}
use Rattle.proofs.specs.declared.proof.Parts.{Parts}
use Rattle.proofs.specs.Convicting.{Convicts, Tells}
use Rattle.proofs.specs.ProofTexts.{proof_of}
use Rattle.bundling.specs.declared.fault.TextFault.{TextFault}
use Rattle.bundling.specs.declared.fault.TextFault.TheVariants as fault

-- The texts are a directory and a proof of these parts. The proof convicts the node under the directory.
pub record TextsConvict {S : Type 0} (program : Meaning S) (directory proof : List ℕ) (node : ℕ) (parts : Parts) : Type 0 where
  pub listing : Listing
  pub is_directory : directory_of directory ≡ Ok listing
  pub is_proof : proof_of proof ≡ Ok parts
  pub convicts : Convicts listing program node parts

-- Why texts convict nobody. The directory's fault comes first. Memory may run out at any time.
abbrev pub RefusesTexts : {S : Type 0} → Meaning S → List ℕ → List ℕ → TextFault → Type 0
RefusesTexts program directory proof (fault.Directory f) = Fails listing_fault.Memory f (directory_of directory)
RefusesTexts program directory proof (fault.Spelling f) = (listing : Listing) × (directory_of directory ≡ Ok listing) × Fails decode_fault.Memory f (proof_of proof)
RefusesTexts program directory proof (fault.Proof f) = (listing : Listing) × (parts : Parts) × (directory_of directory ≡ Ok listing) × (proof_of proof ≡ Ok parts) × Tells listing program parts (Err f)
RefusesTexts program directory proof fault.Memory = Unit {0}
