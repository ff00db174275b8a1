-- Stores as they are in a world.
use Rattle.evidence.specs.Contents.{Contents}
use Rattle.evidence_set.specs.Valid.{AreValid}

-- What the store has is valid under its directory.
abbrev pub HasValidItems : Contents → Type 0
HasValidItems c = AreValid c.directory c.items
