use Rattle.std.proofs.Common.{vec_capacity}
use Rattle.std.specs.Vec.Iter.{into_iter_items}
use Rattle.evidence_set.specs.ItemSets.{pieces}
use Rattle.durable_store.specs.within.Takings.{Taking}
use Rattle.durable_store.proofs.taking.take_each.Given as goal

abbrev pub invariant-loop-checked : goal.invariant-loop-checked
invariant-loop-checked g l =
    Taking g.P.Program.means (g.S.Evidence.contents l.initial.store) (pieces l.fn.group.items) (g.S.Evidence.contents l.store) l.news.items (vec_capacity l.news) (into_iter_items l.checked-iterator)
