use Rattle.durable_store.proofs.CrashLaws.{crashes}
use Rattle.durable_store.proofs.laws.crashes_keep_what_was_acknowledged.Goals as goal

pub returns : goal.returns
returns g c = crashes g.D.Device.moment g.D.Device.may_leave g.D.Device.left_since g.met.D.Device.counts_now g.met.D.Device.only_now
