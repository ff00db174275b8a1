use Rattle.node_tables.proofs.Opened.{empty_store}
use Rattle.indexed_store.proofs.Digested.{none_made}
use Rattle.indexed_store.proofs.indexed_store.IndexedStoreEvidence.new.Goals as goal

pub invariant_of-result : goal.invariant_of-result
invariant_of-result g c = record {
  rest = record {
    indexed = empty_store c.args.directory g.P.Program.means c.new-2.result.items c.new-3.result.items c.in-Ok.tables.items c.new-2.ensures.items c.new-3.ensures c.in-Ok.ensures.ascending c.in-Ok.ensures.listed c.in-Ok.ensures.each;
    owes = c.in-Ok.ensures.owes;
  };
  digested = none_made c.new-4.result _ c.new-4.ensures;
}
