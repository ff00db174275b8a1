use Rattle.std.proofs.Common.{◌≡◌, ◌++◌, take}
use Rattle.evidence_set.specs.Valid.{fields_of}
use Rattle.localities.specs.Shards.{in_turn}
use Rattle.shards.specs.within.Quotes.{quoted_by}
use Rattle.shards.proofs.extracting.add_quotes.Given as goal

abbrev pub invariant-loop-entry : goal.invariant-loop-entry
invariant-loop-entry l = fields_of l.quotes.items ≡ fields_of l.fn.quotes.items ++ quoted_by l.directory (in_turn l.shards) l.me (take l.entry-index l.entries)
