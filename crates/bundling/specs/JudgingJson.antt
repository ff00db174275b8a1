-- What is said of a bundle as JSON (RFC 8259), for programs: one document, in one line.
use Rattle.std.specs.Prelude.{◌≡◌, ℕ, Bool, List, ◌++◌, codes, decimal}
use Rattle.hex.specs.Hex.{encode_lower}
use Rattle.sha2.specs.Sha256.{sha256}
use Rattle.replay_verifier.specs.Meaning.{Meaning}
use Rattle.proofs.specs.declared.proof.Parts.{Parts}
use Rattle.bundles.specs.Spelling.{Contents}
use Rattle.bundling.specs.Convicting.{TextsConvict}
use Rattle.bundling.specs.Judging.{is_agreed}

-- Whom the proof convicts.
unfoldable pub opening : ℕ → List ℕ
opening node = codes "{\"exposes\":" ++ decimal node ++ codes ","

-- A program's name and a directory.
unfoldable pub members : List ℕ → List ℕ → List ℕ
members name directory = codes "\"program\":\"" ++ name ++ codes "\",\"directory\":\"" ++ encode_lower (sha256 directory) ++ codes "\""

-- Whom the proof convicts, under which program and which directory. The member `bundle` has those of the bundle.
abbrev pub document : ℕ → List ℕ → List ℕ → Contents → List ℕ
document node name directory b =
    opening node ++ members name directory ++ codes ",\"bundle\":{" ++ members b.program b.directory ++ codes "}}\n"

-- The text says whom a bundle's proof convicts under the directory and the program, which has this name. `agrees` is whether these are the
-- bundle's own.
pub record IsJudgedInJson {S : Type 0} (program : Meaning S) (name directory : List ℕ) (b : Contents) (text : List ℕ) (agrees : Bool) : Type 0 where
  pub node : ℕ
  pub parts : Parts
  pub convicts : TextsConvict program directory b.proof node parts
  pub is : text ≡ document node name directory b
  pub same : agrees ≡ is_agreed name directory b
