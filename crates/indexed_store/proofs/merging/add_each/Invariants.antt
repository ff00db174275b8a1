use Rattle.std.proofs.Common.{◌≡◌, ◌≤◌, length}
use Rattle.std.specs.List.{Contains}
use Rattle.std.specs.Vec.Iter.{into_iter_items}
use Rattle.evidence_item.specs.Checking.{Checked}
use Rattle.evidence_set.specs.ItemSets.{Join, set_of}
use Rattle.kept_evidence.specs.Kept.{IsWhole}
use Rattle.indexed_store.specs.within.Digested.{StandStill}
use Rattle.indexed_store.specs.within.Resting.{IsAwaiting, IsIndex}
use Rattle.indexed_store.proofs.merging.add_each.Given as goal

abbrev pub invariant-loop-item : goal.invariant-loop-item
invariant-loop-item g l = record {
  store : IsIndex l.directory g.P.Program.means l.index;
  whole : (c : Checked) → Contains (into_iter_items l.item-iterator) c → IsWhole l.directory g.P.Program.means c;
  awaiting : IsAwaiting (into_iter_items l.item-iterator) l.index;
  joined : Join (set_of l.index.items.items) (set_of (into_iter_items l.item-iterator)) ≡ Join (set_of l.initial.index.items.items) (set_of l.fn.more.items);
  grows : length l.initial.index.order.items ≤ length l.index.order.items;
  still : StandStill l.initial.index.items.items l.index.items.items;
}
