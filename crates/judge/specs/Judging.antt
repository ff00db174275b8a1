-- Whom the bytes of a directory and of a proof convict, or why they convict nobody.
use Rattle.std.specs.Prelude.{◌≡◌, ◌⊎◌, ℕ, List, Ok, Err}
use Rattle.authenticators.specs.Directory.{Listing}
use Rattle.authenticators.specs.DirectoryText.{directory_of}
use Rattle.authenticators.specs.declared.fault.DirectoryFault.TheVariants as listing
use Rattle.item_forms.specs.declared.fault.DecodeFault.TheVariants as reading
use Rattle.replay_verifier.specs.Meaning.{Meaning}
use Rattle.proofs.specs.Convicting.{Convicts, Tells}
use Rattle.proofs.specs.ProofTexts.{proof_of}
use Rattle.proofs.specs.declared.proof.Parts.{Parts}
use Rattle.judge.specs.declared.refusal.Refusal.{Refusal}
use Rattle.judge.specs.declared.refusal.Refusal.TheVariants as refusal

-- The bytes are a directory and a proof, and the proof convicts the node under the directory and the program.
abbrev pub Exposes : {S : Type 0} → Meaning S → List ℕ → List ℕ → ℕ → Type 0
Exposes program directory proof node = (ds : Listing) × (parts : Parts) × (directory_of directory ≡ Ok ds) × (proof_of proof ≡ Ok parts) × Convicts ds program node parts

-- The refusal is the first fault: of the directory's bytes, of the proof's, or of what the proof says. In its place memory may run out.
abbrev pub Refuses : {S : Type 0} → Meaning S → List ℕ → List ℕ → Refusal → Type 0
Refuses program directory proof (refusal.Directory f) = (f ≡ listing.Memory) ⊎ (directory_of directory ≡ Err f)
Refuses program directory proof (refusal.Reading f) = (ds : Listing) × (directory_of directory ≡ Ok ds) × ((f ≡ reading.Memory) ⊎ (proof_of proof ≡ Err f))
Refuses program directory proof (refusal.Proof f) = (ds : Listing) × (parts : Parts) × (directory_of directory ≡ Ok ds) × (proof_of proof ≡ Ok parts) × Tells ds program parts (Err f)
Refuses program directory proof refusal.Memory = ⊥
Refuses program directory proof refusal.ReadFailed = ⊥
Refuses program directory proof refusal.WriteFailed = ⊥
