use Rattle.std.proofs.Common.{refl}
use Rattle.node_tables.specs.within.Promising.{nothing, one_for}
use Rattle.node_tables.proofs.Reserved.{none_promised, on_err, on_ok, one_elsewhere, one_here, one_kept, one_promised, one_roomier}
use Rattle.node_tables.proofs.reserving.promise.Goals as goal

pub returns-in_default-clause-ok : goal.returns-in_default-clause-ok
returns-in_default-clause-ok c = let j = c.args.node in none_promised (one_for j) nothing 1 0 c.args.tables.now j (one_here j) refl (λ i other. (one_elsewhere j i other, refl)) c.in_default.ensures.none

pub returns-clause-same : goal.returns-clause-same
returns-clause-same c = one_roomier c.args.tables.now c.args.node c.requires c.in-Some.i c.index-tables-i.result c.promise_here.new.table c.in-Some.ensures.some c.promise_here.ensures.same

pub returns-clause-ok : goal.returns-clause-ok
returns-clause-ok c =
    let j = c.args.node in
    on_ok c.promise_here.result _ _ c.promise_here.ensures.ok
    (one_promised (one_for j) nothing 1 0 c.args.tables.now j (one_here j) refl (λ i other. (one_elsewhere j i other, refl)) c.requires c.in-Some.i c.index-tables-i.result c.promise_here.new.table c.in-Some.ensures.some)

pub returns-clause-refused : goal.returns-clause-refused
returns-clause-refused c =
    on_err c.promise_here.result _ _ c.promise_here.ensures.refused (one_kept c.args.tables.now c.args.node c.requires c.in-Some.i c.index-tables-i.result c.promise_here.new.table c.in-Some.ensures.some)
