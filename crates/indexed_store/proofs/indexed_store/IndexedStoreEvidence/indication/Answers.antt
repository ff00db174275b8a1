use Rattle.std.proofs.Common.{subst}
use Rattle.evidence_set.specs.Indications.{IsIndication}
use Rattle.evidence.specs.Contents.{Contents}
use Rattle.indexed_store.proofs.indexed_store.IndexedStoreEvidence.indication.Goals as goal

pub returns-clause-told : goal.returns-clause-told
returns-clause-told g c =
    subst (λ (s : Contents). IsIndication s.directory g.P.Program.means s.items c.args.node c.indication.result) c.self.view_is c.indication.ensures
