use Rattle.std.proofs.Common.{rules}
use Rattle.std.proofs.lemmas.List.Sorted.{answers_always}
use Rattle.node_tables.specs.declared.table.Table.{Table}
use Rattle.node_tables.proofs.opening.search.Goals as goal

pub returns-clause-position : goal.returns-clause-position
returns-clause-position c = c.binary_search_by_key.ensures.position (λ (t : Table). t.node) (answers_always _ _ _ (λ f a r g called. search rules))
