-- The hashing of a text in several parts.
use Rattle.std.specs.Prelude.{ℕ, List, ◌++◌}
use Rattle.sha2.specs.declared.Sha256.{Sha256}
use Rattle.sha2.specs.Hashers.{Holds256}

-- The hasher was fed the text: it holds the text after what it held before.
abbrev pub Feeds : Sha256 → Sha256 → List ℕ → Type 0
Feeds old new text = (m : List ℕ) → Holds256 old m → Holds256 new (m ++ text)
