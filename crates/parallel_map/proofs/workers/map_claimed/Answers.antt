use Rattle.std.proofs.Common.{◌≡◌, arith}
use Rattle.parallel_map.proofs.Order.{drawn_all}
use Rattle.parallel_map.proofs.workers.map_claimed.Goals as goal

pub returns-clause-len : goal.returns-clause-len
returns-clause-len g c =
    let word : c.close.result ≡ c.args.count = let b = c.close.ensures.bounds in let k = c.in_ok-counter.ensures.count in omega arith in
    (drawn_all g.F.Fn c.args.work.now c.args.count c.in_ok-counter.counter.table.shared.table_id c.in_ok-drawn.drawn.items c.in_ok-placed.placed.items _ _ _ c.in_ok-all.all.items word
    c.close.ensures.once c.in_ok-placed.ensures.mine.1 c.in_ok-placed.ensures.placed c.in_ok-drawn.ensures.1 c.sort.ensures.permutation c.sort.ensures.sorted c.in_ok-all.ensures).0

pub returns-clause-each : goal.returns-clause-each
returns-clause-each g c =
    let word : c.close.result ≡ c.args.count = let b = c.close.ensures.bounds in let k = c.in_ok-counter.ensures.count in omega arith in
    (drawn_all g.F.Fn c.args.work.now c.args.count c.in_ok-counter.counter.table.shared.table_id c.in_ok-drawn.drawn.items c.in_ok-placed.placed.items _ _ _ c.in_ok-all.all.items word
    c.close.ensures.once c.in_ok-placed.ensures.mine.1 c.in_ok-placed.ensures.placed c.in_ok-drawn.ensures.1 c.sort.ensures.permutation c.sort.ensures.sorted c.in_ok-all.ensures).1
