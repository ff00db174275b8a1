-- Parts joined are the whole.
use Rattle.std.proofs.Common.{◌≡◌, ◌≤◌}
use Rattle.evidence_set.specs.ItemSets.{Items}
use Rattle.localities.specs.Shards.{ShardsAreParts, in_turn}
use Rattle.shards.specs.declared.dealing.Dealing.{Dealing}
use Rattle.shards.specs.declared.dealing.Dealing.TheVariants.{ByNode, Extracts}
use Rattle.shards.specs.Extracts.{QuotesAsExpected}
use Rattle.shards.specs.Parts.{parts_joined, parts_of}

pub whole : ShardsAreParts → QuotesAsExpected → (dealing : Dealing) → 1 ≤ parts_of dealing → (E : Items) → parts_joined dealing E ≡ E
whole nodes quotes (ByNode shards) some E = nodes.whole (in_turn shards) shards E (λ j. nodes.in_turn shards j some)
whole nodes quotes (Extracts shards) some E = quotes.whole (in_turn shards) shards E (λ j. nodes.in_turn shards j some)
