-- Digests, by which a store reports to another store which items it has.
use Rattle.std.specs.Prelude.{ℕ, List}
use Rattle.sha2.specs.Sha256.{sha256}
use Rattle.item_forms.specs.Pieces.{Piece}
use Rattle.item_forms.specs.Spelling.{spelling}

-- The digest of an item: the SHA-256 value of its encoding.
abbrev pub digest_of : Piece → List ℕ
digest_of x = sha256 (spelling x.fields)
