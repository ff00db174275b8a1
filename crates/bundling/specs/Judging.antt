-- What is said of a bundle, by its directory and its proof alone.
use Rattle.std.specs.Prelude.{◌≡◌, ◌&&◌, ℕ, Bool, true, List, [], ◌++◌, codes, decimal, if◌then◌else◌, Ok}
use Rattle.std.specs.Str.{bytes_eq}
use Rattle.hex.specs.Hex.{encode_lower}
use Rattle.sha2.specs.Sha256.{sha256}
use Rattle.replay_verifier.specs.Meaning.{Meaning}
use Rattle.proofs.specs.declared.proof.Parts.{Parts}
use Rattle.bundles.specs.Grammar.{bundle_of}
use Rattle.bundles.specs.Spelling.{Contents}
use Rattle.bundling.specs.Convicting.{TextsConvict}
use Rattle.bundling.specs.Handing.{IsMade}

-- Whom the proof convicts, under which program and which directory.
abbrev pub found : ℕ → List ℕ → List ℕ → List ℕ
found node name directory = codes "exposes " ++ decimal node ++ codes "\nprogram " ++ name ++ codes "\ndirectory " ++ encode_lower (sha256 directory) ++ codes "\n"

-- ---- in what the bundle has another one

-- The line about the program, if the bundle names another one.
abbrev pub other_program : List ℕ → List ℕ → List ℕ
other_program name said = if bytes_eq name said then [] else codes "disagrees: the bundle names the program " ++ said ++ codes "\n"

-- The line about the directory, if the bundle has another one.
abbrev pub other_directory : List ℕ → List ℕ → List ℕ
other_directory directory own = if bytes_eq directory own then [] else codes "disagrees: the bundle has the directory " ++ encode_lower (sha256 own) ++ codes "\n"

-- ---- the judgement

-- All lines that are said of a bundle.
abbrev pub judgement : ℕ → List ℕ → List ℕ → Contents → List ℕ
judgement node name directory b = found node name directory ++ other_program name b.program ++ other_directory directory b.directory

-- Whether the bundle names this program and has this directory. If so, no line disagrees.
abbrev pub is_agreed : List ℕ → List ℕ → Contents → Bool
is_agreed name directory b = bytes_eq name b.program && bytes_eq directory b.directory

-- The text says whom a bundle's proof convicts under the directory and the program, which has this name. `agrees` is whether these are the
-- bundle's own.
pub record IsJudged {S : Type 0} (program : Meaning S) (name directory : List ℕ) (b : Contents) (text : List ℕ) (agrees : Bool) : Type 0 where
  pub node : ℕ
  pub parts : Parts
  pub convicts : TextsConvict program directory b.proof node parts
  pub is : text ≡ judgement node name directory b
  pub same : agrees ≡ is_agreed name directory b

-- ---- laws, which `laws` proves

-- A bundle that is made is read as one that has these texts. It is judged to expose the node that its sentences name, and nothing disagrees.
abbrev pub MadeBundlesAreConfirmed : Type 0 → Type 0
MadeBundlesAreConfirmed S =
    (program : Meaning S) (name directory proof more text : List ℕ) (made : IsMade program name directory proof more text)
    → (b : Contents) × (bundle_of text ≡ Ok b) × (b.program ≡ name) × (b.directory ≡ directory) × (b.proof ≡ proof)
    × ((judged : List ℕ) (agrees : Bool) → IsJudged program name directory b judged agrees → (judged ≡ found made.node name directory) × (agrees ≡ true))
