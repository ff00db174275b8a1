use Rattle.std.proofs.Common.{◌≡◌, ap, subst, ◌∙◌}
use Rattle.std.specs.Prelude.{◌↔◌, IsTrue}
use Rattle.evidence_set.specs.ItemSets.{IsWithin, Items, set_of}
use Rattle.evidence.specs.Contents.{Contents}
use Rattle.indexed_store.proofs.indexed_store.IndexedStoreEvidence.includes.Goals as goal

pub returns : goal.returns
returns g c =
    let there : set_of c.deref.result.now ≡ c.args.other.now.items = ap set_of c.deref.ensures.value ∙ ap (λ (s : Contents). s.items) c.other.view_is in
    subst (λ (E : Items). IsTrue c.includes.result ↔ IsWithin E c.args.self.now.items) there
    (subst (λ (s : Contents). IsTrue c.includes.result ↔ IsWithin (set_of c.deref.result.now) s.items) c.self.view_is c.includes.ensures)
