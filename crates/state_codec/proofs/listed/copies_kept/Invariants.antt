use Rattle.std.proofs.Common.{◌≡◌, ◌≤◌, filter, length, take}
use Rattle.state_codec.proofs.listed.copies_kept.Given as goal

abbrev pub invariant-loop-item : goal.invariant-loop-item
invariant-loop-item g l = record {
  items : l.kept.items ≡ filter (g.K.Keeps.keeps l.test) (take l.item-index l.items);
  few : length l.kept.items ≤ l.item-index;
}
