use Rattle.std.proofs.Common.{◌≡◌, ◌-◌, false}
use Rattle.std.specs.List.{AllWithin}
use Rattle.node_tables.specs.declared.row.Row.{Row}
use Rattle.node_tables.specs.Rows.{stated_at}
use Rattle.node_tables.specs.within.Bringing.{denied_by_row}
use Rattle.node_tables.proofs.segments.denier.Given as goal

abbrev pub invariant-loop-place : goal.invariant-loop-place
invariant-loop-place g l = AllWithin (λ (r : Row). denied_by_row (stated_at l.items r) l.kept.item.fields ≡ false) l.table.rows.items l.near.start l.place

abbrev pub decreases-loop-place : goal.decreases-loop-place
decreases-loop-place g l = l.near.end - l.place
