use Rattle.std.proofs.Common.{subst}
use Rattle.std.specs.Prelude.{◌↔◌, IsSome}
use Rattle.evidence_set.specs.Indications.{IsExposed}
use Rattle.evidence.specs.Contents.{Contents}
use Rattle.indexed_store.proofs.indexed_store.IndexedStoreEvidence.proof.Goals as goal

pub returns-clause-some : goal.returns-clause-some
returns-clause-some g c =
    subst (λ (s : Contents). IsSome c.in_ok-found.found ↔ IsExposed s.directory g.P.Program.means s.items c.args.node) c.self.view_is c.in_ok-found.ensures.some
