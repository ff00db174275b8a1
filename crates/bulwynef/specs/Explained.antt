-- What is written about what was read, for a person to read, and how the engine ends.
use Rattle.std.specs.Prelude.{ℕ, ◌≡◌, ◌⊎◌, ◌++◌, List, drop, length, ltb, if◌then◌else◌, Bool, true, Option, None, Result, Ok, Err}
use Rattle.authenticators.specs.Directory.{Listing}
use Rattle.authenticators.specs.DirectoryText.{directory_of}
use Rattle.replay_verifier.specs.Meaning.{Meaning}
use Rattle.page_text.specs.Pages.{IsPage}
use Rattle.proofs.specs.declared.proof.Parts.{Parts}
use Rattle.proofs.specs.Convicting.{Convicts}
use Rattle.proofs.specs.ProofTexts.{proof_of}
use Rattle.evidence.specs.Exports.{export_of}
use Rattle.sentences.specs.declared.basis.Basis.{Basis}
use Rattle.sentences.specs.declared.site.Input.TheVariants as kind
use Rattle.commands.specs.declared.fault.Fault.{Fault}
use Rattle.explaining.specs.Explained.{ExplainsProof, ExplainsStore, IsBasis}
use Rattle.operating.specs.declared.asking.Ending.{Ending}
use Rattle.operating.specs.declared.asking.Ending.TheVariants as ending
use Rattle.operating.specs.declared.scope.Scope.TheVariants as scope
use Rattle.operating.specs.FileTexts.{Says}
use Rattle.operating.specs.GatheredFiles.{Collected}
use Rattle.operating.specs.Questions.{IsEnding}

-- ---- stores

-- A text with these bytes in place of its first eight, which show that it is a store's encoding. A shorter text stays as it is.
abbrev pub fronted : List ℕ → List ℕ → List ℕ
fronted front text = if ltb (length text) 8 then text else front ++ drop 8 text

-- The basis on which stores are judged: the program's name, the encoding of the directory, and the encoding of the union of the stores. One
-- store may be judged by its own encoding, which has the same items behind eight bytes of its own.
abbrev pub IsBasisOfStores : List ℕ → Collected → Basis → Type 0
IsBasisOfStores name c b =
    IsBasis name c.directory kind.Union (export_of c.contents.items) b
    ⊎ ((front : List ℕ) × (length front ≡ 8) × IsBasis name c.directory kind.Store (fronted front (export_of c.contents.items)) b)

-- `explain` of stores: an explanation of their items, or a page, with the basis on which they are judged. It ends as `status` does, and is never
-- refused.
abbrev pub ExplainStores : {S : Type 0} → List ℕ → Bool → Meaning S → Collected → Result (List ℕ × Ending) Fault → Type 0
ExplainStores name is_page program c (Ok told) = ((b : Basis) × IsBasisOfStores name c b × ExplainsStore is_page program b c.contents told.0) × IsEnding scope.All program c.contents told.1
ExplainStores name is_page program c (Err f) = ⊥

-- ---- a proof

-- The encodings of a directory and of a proof, the parts of the proof, and the node that it convicts.
pub record ConvictingTexts : Type 0 where
  pub directory : List ℕ
  pub proof : List ℕ
  pub parts : Parts
  pub node : ℕ

-- File 0 says the directory, and file 1 the proof. The proof convicts the node.
pub record AreConvictingTexts {S : Type 0} (program : Meaning S) (limit : ℕ) (files : ℕ → Option (List ℕ)) (x : ConvictingTexts) : Type 0 where
  pub listing : Listing
  pub first : Says limit None (files 0) x.directory
  pub directory : directory_of x.directory ≡ Ok listing
  pub second : Says limit None (files 1) x.proof
  pub proof : proof_of x.proof ≡ Ok x.parts
  pub convicts : Convicts listing program x.node x.parts

-- `explain` of a proof: a text or a page, which says which node the proof convicts, and why, with the basis on which it is judged. It is never
-- refused.
abbrev pub ExplainProof : List ℕ → Bool → ConvictingTexts → Result (List ℕ × Ending) Fault → Type 0
ExplainProof name is_page x (Ok told) = ((b : Basis) × IsBasis name x.directory kind.Proof x.proof b × ExplainsProof is_page x.node x.parts b told.0) × (told.1 ≡ ending.Exposed)
ExplainProof name is_page x (Err f) = ⊥

-- ---- a directory

-- `explain` of a directory: a text, of which nothing is said, or a page. It is never refused.
abbrev pub ExplainDirectory : Bool → Listing → Result (List ℕ × Ending) Fault → Type 0
ExplainDirectory is_page ds (Ok told) = (is_page ≡ true → IsPage told.0) × (told.1 ≡ ending.Done)
ExplainDirectory is_page ds (Err f) = ⊥
