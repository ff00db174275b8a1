use Rattle.std.proofs.Common.{◌≡◌, ◌++◌, take}
use Rattle.std.specs.List.{flat_map}
use Rattle.state_codec.proofs.listed.write_each.Given as goal

abbrev pub invariant-loop-item : goal.invariant-loop-item
invariant-loop-item g l = l.writer ≡ l.initial.writer ++ flat_map g.T.Coded.coding.text (take l.item-index l.items)
