use Rattle.std.proofs.Common.{vec_capacity}
use Rattle.durable_store.specs.within.Batches.{Gathering}
use Rattle.durable_store.proofs.finding.next_items.Given as goal

abbrev pub invariant-loop-n : goal.invariant-loop-n
invariant-loop-n g l = Gathering g.D.Device.found l.initial.reading l.reading l.items.items (vec_capacity l.items) l.n
