-- The text that says under what a verdict is given: the program, the directory, and what was judged.
use Rattle.std.specs.Prelude.{ℕ, List, [], ◌∷◌, ◌++◌, codes, string_bytes}
use Rattle.hex.specs.Hex.{encode_lower}
use Rattle.sentences.specs.declared.basis.Basis.{Basis}
use Rattle.sentences.specs.declared.site.Input.{Input}
use Rattle.sentences.specs.declared.site.Input.TheVariants as input

-- Bytes in groups of two. Each group is four hexadecimal digits after a blank. A byte that is left over is not written.
unfoldable pub groups : List ℕ → List ℕ
groups [] = []
groups (a ∷ []) = []
groups (a ∷ b ∷ more) = 32 ∷ encode_lower (a ∷ b ∷ []) ++ groups more

-- What was judged, in words.
abbrev pub input_name : Input → List ℕ
input_name input.Store = codes "store"
input_name input.Union = codes "union of the stores"
input_name input.Proof = codes "proof"

-- The line of a program.
abbrev pub program_line : List ℕ → List ℕ
program_line name = codes "Program: " ++ name ++ codes "\n"

-- What stands before a digest: the name of what has it.
abbrev pub digest_label : List ℕ → List ℕ
digest_label name = codes "SHA-256 of the " ++ name ++ codes ":"

-- The line of a digest, after the name of what has it.
abbrev pub digest_line : List ℕ → List ℕ → List ℕ
digest_line name hash = digest_label name ++ groups hash ++ codes "\n"

-- The three lines of a basis: its program, and the digests of the directory and of what was judged.
abbrev pub basis_text : Basis → List ℕ
basis_text b = program_line (string_bytes b.program) ++ digest_line (codes "directory") b.directory ++ digest_line (input_name b.input) b.evidence
