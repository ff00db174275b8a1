use Rattle.std.proofs.Common.{sym, subst}
use Rattle.indexed_store.specs.within.Digested.{AreDigests}
use Rattle.indexed_store.proofs.Digested.{stay_digests}
use Rattle.indexed_store.proofs.indexed_store.IndexedStoreEvidence.take_all.Goals as goal

pub keep_up-requires : goal.keep_up-requires
keep_up-requires g c =
    subst (AreDigests c.self.inside.digests) (sym c.deref.ensures.value)
    (stay_digests c.self.inside.digests c.self.inside.index.items.items c.take_all-taken.new.index.items.items c.take_all-taken.ensures.still c.self.invariant.digested)

pub invariant_of-self : goal.invariant_of-self
invariant_of-self g c = record { rest = c.take_all-taken.ensures.store; digested = subst (AreDigests c.keep_up.new.self) c.deref.ensures.value c.keep_up.ensures }
