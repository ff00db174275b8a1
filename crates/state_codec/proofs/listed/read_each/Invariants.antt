use Rattle.std.proofs.Common.{◌≡◌, ◌-◌, length}
use Rattle.log_chain.specs.Fields.{parts_at}
use Rattle.log_chain.proofs.PartsLoop.{with_front}
use Rattle.state_codec.proofs.listed.read_each.Given as goal

-- What was read, and what is left to read, make the whole.
abbrev pub invariant-loop : goal.invariant-loop
invariant-loop g l = record {
  whole : with_front l.items.items (parts_at g.T.Coded.coding.at (l.count - l.counter) l.reader) ≡ parts_at g.T.Coded.coding.at l.count l.initial.reader;
  count : length l.items.items ≡ l.counter;
}
