use Rattle.std.proofs.Common.{◌≡◌, take}
use Rattle.evidence_set.specs.ItemSets.{pieces}
use Rattle.journal.specs.Journal.{texts_of}
use Rattle.durable_store.specs.Calls.{unheld}
use Rattle.durable_store.specs.Keeping.{spellings}
use Rattle.durable_store.proofs.taking.new_texts.Given as goal

abbrev pub invariant-loop-checked : goal.invariant-loop-checked
invariant-loop-checked g l = texts_of l.texts.items ≡ spellings (unheld (g.S.Evidence.contents l.store).items (pieces (take l.checked-index l.group)))
