use Rattle.std.proofs.Common.{arith}
use Rattle.parallel_map.proofs.Steps.{joins}
use Rattle.parallel_map.proofs.counter.join.Goals as goal

pub join_seat-requires : goal.join_seat-requires
join_seat-requires c = (c.requires.table.0, c.requires.table.1, c.requires.slots, omega arith, joins _ _ _ _ _)
