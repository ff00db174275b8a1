use Rattle.std.proofs.Common.{ap, sym, ◌∙◌}
use Rattle.std.proofs.lemmas.Option.{same_Some}
use Rattle.node_tables.specs.declared.table.Table.{Table}
use Rattle.node_tables.proofs.Places.{read_at}
use Rattle.indexed_store.proofs.index.table_of.Goals as goal

pub returns-in-None-clause-none : goal.returns-in-None-clause-none
returns-in-None-clause-none g c = rw c.deref.ensures.value at c.in-None.ensures.none

pub returns-in-Some-clause-some : goal.returns-in-Some-clause-some
returns-in-Some-clause-some g c =
    let t = c.index.result.now in
    let found = rw c.deref.ensures.value at c.in-Some.ensures.some in
    let at = read_at c.args.index.now.tables.items c.in-Some.i t (rw c.deref.ensures.value at c.in-Some.ensures.within) c.index.ensures in
    (c.in-Some.i, at, ap (λ (u : Table). u.node) (same_Some t found.0 (sym at ∙ found.1)) ∙ found.2)
