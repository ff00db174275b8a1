use Rattle.std.proofs.Common.{◌≡◌, List, sym, ap, subst, ◌∙◌}
use Rattle.std.specs.List.{Contains}
use Rattle.authenticators.specs.Directory.{Listing}
use Rattle.evidence_item.specs.Checking.{Checked}
use Rattle.evidence.specs.Contents.{Contents}
use Rattle.kept_evidence.specs.Kept.{IsWhole}
use Rattle.indexed_store.specs.within.Digested.{AreDigests}
use Rattle.indexed_store.proofs.Digested.{stay_digests}
use Rattle.indexed_store.proofs.indexed_store.IndexedStoreEvidence.merge.Goals as goal

pub merge-merged-requires-clause-others : goal.merge-merged-requires-clause-others
merge-merged-requires-clause-others g c = λ k has.
    let same : c.other.inside.directory ≡ c.self.inside.directory = ap (λ (s : Contents). s.directory) c.other.view_is ∙ sym c.requires ∙ sym (ap (λ (s : Contents). s.directory) c.self.view_is) in
    subst (λ (ds : Listing). IsWhole ds g.P.Program.means k) same (c.other.invariant.rest.indexed.whole k (subst (λ (l : List Checked). Contains l k) c.deref.ensures.value has))

pub keep_up-requires : goal.keep_up-requires
keep_up-requires g c =
    subst (AreDigests c.self.inside.digests) (sym c.deref-2.ensures.value)
    (stay_digests c.self.inside.digests c.self.inside.index.items.items c.merge-merged.new.index.items.items c.merge-merged.ensures.still c.self.invariant.digested)

pub invariant_of-self : goal.invariant_of-self
invariant_of-self g c = record { rest = c.merge-merged.ensures.store; digested = subst (AreDigests c.keep_up.new.self) c.deref-2.ensures.value c.keep_up.ensures }
