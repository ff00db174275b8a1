-- What is handed over: the bundle of a directory and of a proof that convicts a node.
use Rattle.std.specs.Prelude.{◌≡◌, ℕ, List, ◌++◌, codes, decimal}
use Rattle.hex.specs.Hex.{encode_lower}
use Rattle.sha2.specs.Sha256.{sha256}
use Rattle.replay_verifier.specs.Meaning.{Meaning}
use Rattle.proofs.specs.declared.proof.Parts.{Parts}
use Rattle.proofs.specs.declared.proof.Parts.TheVariants as parts
use Rattle.bundles.specs.Spelling.{Contents, IsBundle, text_of}
use Rattle.bundling.specs.declared.fault.MakeFault.{MakeFault}
use Rattle.bundling.specs.declared.fault.MakeFault.TheVariants as making
use Rattle.bundling.specs.Convicting.{RefusesTexts, TextsConvict}

-- ---- sentences

-- Who is exposed, under which program.
abbrev pub heading : ℕ → List ℕ → List ℕ
heading node name = codes "# Node " ++ decimal node ++ codes " is exposed, where it was to follow the program " ++ name ++ codes ".\n"

-- The sentence that says that the node signed two hashes.
abbrev pub two_hashes : ℕ → List ℕ
two_hashes seq = codes "# It signed two hashes for entry " ++ decimal seq ++ codes " of its log.\n"

-- The sentence that says that the node signed a hash and a part of its log that contradict each other.
abbrev pub contradiction : ℕ → List ℕ
contradiction seq = codes "# The hash that it signed for entry " ++ decimal seq ++ codes " of its log contradicts a part of the log that it signed too.\n"

-- The sentence that says that the node signed a part of its log that no log of a node that follows the program has.
unfoldable pub no_log : List ℕ
no_log = codes "# It signed a part of its log that is of no log of a node which follows this program.\n"

-- Why the node is exposed, by the form of the proof.
abbrev pub reason : Parts → List ℕ
reason (parts.TwoAuths a b) = two_hashes a.seq
reason (parts.AuthSegment a s) = contradiction a.seq
reason (parts.Nonconforming s) = no_log

-- The SHA-256 value of the directory.
abbrev pub listing : List ℕ → List ℕ
listing directory = codes "# The directory of the nodes has the SHA-256 value " ++ encode_lower (sha256 directory) ++ codes ".\n"

-- How the proof is checked.
unfoldable pub advice : List ℕ
advice = codes "# Nothing in a line that begins with # is believed. Check the proof by one of these:\n#   bulwynef check FILE\n#   python3 check.py --why FILE\n# Each writes the node, the program and the directory. Compare the last two with what you got by another way than this file.\n"

-- The sentences that a bundle gets, without those of the caller.
unfoldable pub sentences_of : ℕ → List ℕ → List ℕ → Parts → List ℕ
sentences_of node name directory x = heading node name ++ reason x ++ listing directory ++ advice

-- ---- the bundle

-- The bundle that is handed over. The caller's sentences stand behind its own.
abbrev pub handed : ℕ → Parts → List ℕ → List ℕ → List ℕ → List ℕ → Contents
handed node x name directory proof more =
    record { sentences = sentences_of node name directory x ++ more; program = name; directory = directory; proof = proof }

-- The text is that of the bundle of a directory and a proof. The proof convicts a node.
pub record IsMade {S : Type 0} (program : Meaning S) (name directory proof more text : List ℕ) : Type 0 where
  pub node : ℕ
  pub parts : Parts
  pub convicts : TextsConvict program directory proof node parts
  pub spelled : IsBundle (handed node parts name directory proof more)
  pub is : text ≡ text_of (handed node parts name directory proof more)

-- Why no bundle is made: the texts convict nobody, or a part is not as bundles have it.
abbrev pub RefusesMaking : {S : Type 0} → Meaning S → List ℕ → List ℕ → List ℕ → List ℕ → MakeFault → Type 0
RefusesMaking program name directory proof more (making.Text f) = RefusesTexts program directory proof f
RefusesMaking program name directory proof more making.BadBundle =
    (node : ℕ) × (x : Parts) × TextsConvict program directory proof node x × (IsBundle (handed node x name directory proof more) → ⊥)
