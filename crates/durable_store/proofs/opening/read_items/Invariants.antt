use Rattle.std.proofs.Common.{◌-◌}
use Rattle.durable_store.specs.within.Filling.{Filling}
use Rattle.durable_store.proofs.opening.read_items.Given as goal

abbrev pub invariant-batches : goal.invariant-batches
invariant-batches g l = Filling g.D.Device.found l.initial.reading l.reading (g.S.Evidence.contents l.initial.store) (g.S.Evidence.contents l.store) l.before

abbrev pub decreases-batches : goal.decreases-batches
decreases-batches g l = 9223372036854775808 - l.reading.end
