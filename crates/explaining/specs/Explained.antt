-- What is written of evidence and of proofs, for a person to read.
use Rattle.std.specs.Prelude.{◌≡◌, ℕ, List, ◌++◌, string_bytes, Bool, false, true}
use Rattle.replay_verifier.specs.Meaning.{Meaning}
use Rattle.sha2.specs.Sha256.{sha256}
use Rattle.evidence.specs.Contents.{Contents}
use Rattle.proofs.specs.declared.proof.Parts.{Parts}
use Rattle.sentences.specs.declared.basis.Basis.{Basis}
use Rattle.sentences.specs.declared.explanation.Explanation.{Explanation}
use Rattle.sentences.specs.declared.site.Input.{Input}
use Rattle.sentences.specs.Bases.{basis_text}
use Rattle.sentences.specs.Texts.{text_of}
use Rattle.explanations.specs.Whys.{ExplainsParts, ExplainsSet, IsExplained}
use Rattle.explanation_pages.specs.Shown.{IsPageOf}

-- ---- under what it is judged

-- The basis names the program, and has the SHA-256 of the directory's encoding and of what was judged.
pub record IsBasis (name listing : List ℕ) (form : Input) (judged : List ℕ) (b : Basis) : Type 0 where
  pub program : string_bytes b.program ≡ name
  pub directory : b.directory ≡ sha256 listing
  pub input : b.input ≡ form
  pub evidence : b.evidence ≡ sha256 judged

-- ---- what is written of what was read

-- The page of evidence: it has an explanation of the evidence under a basis.
pub record PagesStore {S : Type 0} (program : Meaning S) (basis : Basis) (s : Contents) (text : List ℕ) : Type 0 where
  pub explanation : Explanation
  pub told : ExplainsSet program s explanation
  pub page : IsPageOf basis explanation text

-- What is written of evidence under a basis: an explanation as a text, or as a page.
pub record ExplainsStore {S : Type 0} (is_page : Bool) (program : Meaning S) (basis : Basis) (s : Contents) (text : List ℕ) : Type 0 where
  pub says : is_page ≡ false → IsExplained program basis s text
  pub page : is_page ≡ true → PagesStore program basis s text

-- The text of a proof of these parts, which convict the node.
pub record TellsProof (node : ℕ) (x : Parts) (basis : Basis) (text : List ℕ) : Type 0 where
  pub explanation : Explanation
  pub told : ExplainsParts node x explanation
  pub is : text ≡ basis_text basis ++ text_of explanation

-- The page of a proof of these parts, which convict the node.
pub record PagesProof (node : ℕ) (x : Parts) (basis : Basis) (text : List ℕ) : Type 0 where
  pub explanation : Explanation
  pub told : ExplainsParts node x explanation
  pub page : IsPageOf basis explanation text

-- What is written of such a proof: a text, or a page.
pub record ExplainsProof (is_page : Bool) (node : ℕ) (x : Parts) (basis : Basis) (text : List ℕ) : Type 0 where
  pub says : is_page ≡ false → TellsProof node x basis text
  pub page : is_page ≡ true → PagesProof node x basis text
