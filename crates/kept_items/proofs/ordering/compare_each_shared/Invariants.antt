use Rattle.std.proofs.Common.{◌≡◌, drop}
use Rattle.std.specs.Cmp.Lexicographic.{slice_cmp}
use Rattle.item_forms.specs.SegmentOrders.{entry_order}
use Rattle.kept_entries.specs.Shared.{entries_of}
use Rattle.kept_items.proofs.ordering.compare_each_shared.Given as goal

abbrev pub invariant-loop-handle : goal.invariant-loop-handle
invariant-loop-handle l = slice_cmp entry_order (entries_of (drop l.handle-index l.a)) (entries_of l.rest) ≡ slice_cmp entry_order (entries_of l.a) (entries_of l.b)
