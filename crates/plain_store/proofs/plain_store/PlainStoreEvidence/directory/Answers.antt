use Rattle.std.proofs.Common.{subst}
use Rattle.evidence_set.specs.Valid.{AreValid}
use Rattle.evidence.specs.Contents.{Contents}
use Rattle.plain_store.proofs.Stores.{all_valid}
use Rattle.plain_store.proofs.plain_store.PlainStoreEvidence.directory.Goals as goal

pub returns-clause-valid : goal.returns-clause-valid
returns-clause-valid g c =
    subst (λ (s : Contents). AreValid s.directory s.items) c.self.view_is (all_valid c.self.inside.directory g.P.Program.means c.self.inside.items.items c.self.invariant.items)
