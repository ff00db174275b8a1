use Rattle.std.proofs.Common.{refl}
use Rattle.node_tables.proofs.Opened.{empty_table}
use Rattle.node_tables.proofs.opening.empty.Goals as goal

pub returns-clause-table : goal.returns-clause-table
returns-clause-table c = empty_table _ c.new.ensures c.new-2.ensures.sendings c.new-3.ensures c.new-4.ensures c.new-5.ensures.holders c.new-5.ensures.lasts c.new-5.ensures.firsts refl
