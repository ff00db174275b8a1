use Rattle.std.proofs.Common.{◌≡◌, ◌-◌, List}
use Rattle.log_chain.specs.declared.entry.Entry.{Entry}
use Rattle.log_chain.specs.Fields.{parts_at}
use Rattle.log_chain.proofs.PartsLoop.{with_front}
use Rattle.item_forms.specs.Reading.{entry_at}
use Rattle.item_forms.proofs.scanning.skip_some.Given as goal

abbrev pub invariant-loop : goal.invariant-loop
invariant-loop l = (entries : List Entry) × (with_front entries (parts_at entry_at (l.count - l.counter) l.reader) ≡ parts_at entry_at l.count l.initial.reader)
