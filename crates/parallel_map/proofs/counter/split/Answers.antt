use Rattle.std.proofs.Common.{arith}
use Rattle.parallel_map.proofs.Steps.{splits}
use Rattle.parallel_map.proofs.counter.split.Goals as goal

pub split_seat-requires : goal.split_seat-requires
split_seat-requires c = (c.requires.table.0, omega arith, splits _ _ _ c.requires.parts)
