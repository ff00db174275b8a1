use Rattle.std.proofs.Common.{◌≡◌, ◌-◌, [], All, vec_len}
use Rattle.parallel_map.specs.Claiming.{view, all_parts}
use Rattle.parallel_map.specs.within.Working.{Fresh}
use Rattle.parallel_map.proofs.workers.deal.Given as goal

abbrev pub invariant-loop-turn : goal.invariant-loop-turn
invariant-loop-turn l = record {
  table : l.mine.table_id ≡ l.numbers.table_id;
  mine : l.mine.me ≡ (view [] 0 (all_parts - l._turn), []);
  len : vec_len l.seats ≡ l._turn;
  fresh : All (Fresh l.numbers.table_id) l.seats.items;
}
