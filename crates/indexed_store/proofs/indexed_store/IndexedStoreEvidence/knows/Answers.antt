use Rattle.std.proofs.Common.{subst}
use Rattle.std.specs.Prelude.{◌↔◌, IsTrue}
use Rattle.evidence.specs.Contents.{Contents}
use Rattle.localities.specs.Known.{IsKnown}
use Rattle.indexed_store.proofs.indexed_store.IndexedStoreEvidence.knows.Goals as goal

pub returns : goal.returns
returns g c = subst (λ (s : Contents). IsTrue c.knows.result ↔ IsKnown s.directory s.items c.args.node) c.self.view_is c.knows.ensures
