use Rattle.std.proofs.Common.{arith}
use Rattle.parallel_map.proofs.Steps.{draws}
use Rattle.parallel_map.proofs.counter.draw.Goals as goal

pub compare_exchange-requires : goal.compare_exchange-requires
compare_exchange-requires c = (c.requires.table.0, omega arith, draws _ _ _ _ _ c.requires.part c.requires.saw.0 c.requires.saw.1)
