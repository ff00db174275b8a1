use Rattle.std.proofs.Common.{◌≡◌, take}
use Rattle.std.specs.List.{flat_map}
use Rattle.evidence_set.specs.Valid.{fields_of}
use Rattle.localities.specs.Shards.{in_turn}
use Rattle.shards.specs.within.Quotes.{quoted_in}
use Rattle.shards.proofs.extracting.quotes_of.Given as goal

abbrev pub invariant-loop-item : goal.invariant-loop-item
invariant-loop-item l = fields_of l.quotes.items ≡ flat_map (quoted_in l.directory (in_turn l.shards)) (fields_of (take l.item-index l.items))
