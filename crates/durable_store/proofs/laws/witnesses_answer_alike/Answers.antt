use Rattle.durable_store.proofs.WitnessLaws.{both_alike}
use Rattle.durable_store.proofs.laws.witnesses_answer_alike.Goals as goal

pub returns : goal.returns
returns g c =
    both_alike _ _ _ g.C.Device.moment g.C.Device.may_leave g.C.Device.left_since g.D.Device.moment g.D.Device.may_leave g.D.Device.left_since
    c.witnesses_keep_what_they_acknowledged.ensures c.witnesses_keep_what_they_acknowledged-2.ensures c.indications_are_one.ensures
