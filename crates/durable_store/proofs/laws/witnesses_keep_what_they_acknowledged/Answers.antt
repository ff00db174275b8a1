use Rattle.durable_store.proofs.WitnessLaws.{witnesses_keep}
use Rattle.durable_store.proofs.laws.witnesses_keep_what_they_acknowledged.Goals as goal

pub returns : goal.returns
returns g c = witnesses_keep g.D.Device.moment g.D.Device.may_leave g.D.Device.left_since g.met.D.Device.counts_now g.met.D.Device.only_now c.files_keep_one_set.ensures
