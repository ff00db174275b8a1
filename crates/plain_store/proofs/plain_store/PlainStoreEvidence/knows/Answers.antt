use Rattle.std.proofs.Common.{List, subst}
use Rattle.std.specs.Prelude.{◌↔◌, IsTrue}
use Rattle.evidence_item.specs.Checking.{Checked}
use Rattle.evidence_set.specs.ItemSets.{set_of}
use Rattle.evidence.specs.Contents.{Contents}
use Rattle.localities.specs.Known.{IsKnown}
use Rattle.plain_store.proofs.plain_store.PlainStoreEvidence.knows.Goals as goal

pub returns : goal.returns
returns g c =
    subst (λ (s : Contents). IsTrue c.knows.result ↔ IsKnown s.directory s.items c.args.node) c.self.view_is
    (subst (λ (l : List Checked). IsTrue c.knows.result ↔ IsKnown c.self.inside.directory (set_of l) c.args.node) c.deref.ensures.value c.knows.ensures)
