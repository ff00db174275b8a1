use Rattle.parallel_map.specs.within.Working.{Drawing}
use Rattle.parallel_map.proofs.workers.work_all.Given as goal

abbrev pub invariant-loop-turn : goal.invariant-loop-turn
invariant-loop-turn g l = Drawing g.F.Fn l.work l.numbers.table_id l.seat l.saw l.placed.items
