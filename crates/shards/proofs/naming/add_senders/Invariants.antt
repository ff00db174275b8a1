use Rattle.std.proofs.Common.{◌≡◌, ◌++◌, map, take}
use Rattle.std.specs.List.{filter_map}
use Rattle.localities.specs.Concerning.{sender_in}
use Rattle.localities.specs.Shards.{in_turn}
use Rattle.shards.proofs.naming.add_senders.Given as goal

abbrev pub invariant-loop-entry : goal.invariant-loop-entry
invariant-loop-entry l = l.numbers.items ≡ l.fn.numbers.items ++ map (in_turn l.shards) (filter_map sender_in (take l.entry-index l.entries))
