-- What texts for a person say of nodes, and what this is based on.
use Rattle.std.specs.Prelude.{◌≡◌, ℕ, List, ◌++◌, codes, Ok}
use Rattle.hex.specs.Hex.{encode_lower}
use Rattle.sha2.specs.Sha256.{sha256}
use Rattle.replay_verifier.specs.Meaning.{Meaning}
use Rattle.proofs.specs.Convicting.{Convicts}
use Rattle.evidence.specs.Contents.{Contents}
use Rattle.sentences.specs.declared.explanation.Explanation.{Explanation}
use Rattle.sentences.specs.Texts.{text_of}
use Rattle.explanations.specs.Whys.{ExplainsParts, ExplainsSet}
use Rattle.byte_calls.specs.Checks.{Presented, presented_of}

-- The SHA-256 of the bytes, in lower-case hexadecimal digits.
abbrev pub sum_of : List ℕ → List ℕ
sum_of text = encode_lower (sha256 text)

-- What a verdict is based on: the program's name, and the digits of the sum of the directory's encoding, in a line each.
abbrev pub basis_text : List ℕ → List ℕ → List ℕ
basis_text name sum = codes "program " ++ name ++ codes "\ndirectory " ++ sum ++ codes "\n"

-- The text first says what the verdict is based on. Then it says of each listed node, and of no other, what the items say of it under this
-- program, and why.
pub record TellsOfAll {S : Type 0} (program : Meaning S) (name sum : List ℕ) (s : Contents) (text : List ℕ) : Type 0 where
  pub explanation : Explanation
  pub written : text ≡ basis_text name sum ++ text_of explanation
  pub explained : ExplainsSet program s explanation

-- The text first says what the verdict is based on. Then it says whom a proof convicts under this program and the directory with this encoding,
-- and why.
pub record TellsOfProof {S : Type 0} (program : Meaning S) (name directory proof text : List ℕ) : Type 0 where
  pub presented : Presented
  pub node : ℕ
  pub explanation : Explanation
  pub is : presented_of directory proof ≡ Ok presented
  pub convicts : Convicts presented.directory program node presented.parts
  pub written : text ≡ basis_text name (sum_of directory) ++ text_of explanation
  pub explained : ExplainsParts node presented.parts explanation
