use Rattle.std.proofs.Common.{◌≡◌, drop}
use Rattle.kept_entries.specs.Shared.{entries_of}
use Rattle.kept_evidence.specs.Telling.{told_receipt}
use Rattle.kept_items.specs.within.Shared.{quotes_of}
use Rattle.kept_items.proofs.answering.have_receipt_of.Given as goal

abbrev pub invariant-loop-handle : goal.invariant-loop-handle
invariant-loop-handle l = told_receipt l.message (entries_of (drop l.handle-index l.handles)) (quotes_of (drop l.handle-index l.handles)) ≡ told_receipt l.message (entries_of l.handles) (quotes_of l.handles)
