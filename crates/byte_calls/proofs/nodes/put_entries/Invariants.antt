use Rattle.std.proofs.Common.{◌≡◌, ◌++◌, take}
use Rattle.std.specs.List.{flat_map}
use Rattle.item_forms.specs.Spelling.{entry_spelling}
use Rattle.byte_calls.proofs.nodes.put_entries.Given as goal

abbrev pub invariant-loop-entry : goal.invariant-loop-entry
invariant-loop-entry l = l.writer ≡ l.initial.writer ++ flat_map entry_spelling (take l.entry-index l.entries)
