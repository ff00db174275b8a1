use Rattle.std.proofs.Common.{take}
use Rattle.std.specs.List.{flat_map}
use Rattle.item_forms.specs.Spelling.{entry_spelling}
use Rattle.item_digests.specs.Feeding.{Feeds}
use Rattle.item_digests.proofs.feeding.feed_each.Given as goal

abbrev pub invariant-loop-entry : goal.invariant-loop-entry
invariant-loop-entry l = Feeds l.initial.hasher l.hasher (flat_map entry_spelling (take l.entry-index l.entries))
