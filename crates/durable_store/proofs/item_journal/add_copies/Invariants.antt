use Rattle.std.proofs.Common.{◌≡◌, ◌++◌, take}
use Rattle.journal.specs.Journal.{texts_of}
use Rattle.durable_store.proofs.item_journal.add_copies.Given as goal

abbrev pub invariant-loop-text : goal.invariant-loop-text
invariant-loop-text l = texts_of l.all.items ≡ texts_of l.initial.all.items ++ texts_of (take l.text-index l.texts)
