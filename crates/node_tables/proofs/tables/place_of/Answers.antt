use Rattle.std.proofs.Common.{rules}
use Rattle.std.proofs.lemmas.Option.{IfSome_then, slice_get_within}
use Rattle.std.proofs.lemmas.List.Sorted.{answers_always}
use Rattle.node_tables.specs.declared.table.Table.{Table}
use Rattle.node_tables.proofs.Lookup.{found}
use Rattle.node_tables.proofs.tables.place_of.Goals as goal

pub returns-clause-none : goal.returns-clause-none
returns-clause-none c =
    let facts = c.binary_search_by_key.ensures in
    let by_number = facts.position (λ (t : Table). t.node) (answers_always _ _ _ (λ f a r g called. search rules)) in
    rw c.ok.ensures.value (found c.args.tables.now c.args.node c.requires c.binary_search_by_key.result facts.bound by_number).0

pub returns-clause-some : goal.returns-clause-some
returns-clause-some c =
    let facts = c.binary_search_by_key.ensures in
    let by_number = facts.position (λ (t : Table). t.node) (answers_always _ _ _ (λ f a r g called. search rules)) in
    rw c.ok.ensures.value (found c.args.tables.now c.args.node c.requires c.binary_search_by_key.result facts.bound by_number).1

pub returns-clause-within : goal.returns-clause-within
returns-clause-within c = IfSome_then c.ok.result (returns-clause-some c) (λ i found. slice_get_within c.args.tables.now i found.0 found.1)
