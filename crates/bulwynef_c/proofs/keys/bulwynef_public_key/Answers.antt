use Rattle.std.proofs.Common.{inr, length}
use Rattle.byte_calls.specs.declared.refusal.Refusal.TheVariants.{WrongLength}
use Rattle.bulwynef_c.proofs.Rooms.{no_room}
use Rattle.bulwynef_c.proofs.keys.bulwynef_public_key.Goals as goal

pub returns-then-key-ne56-clause-number : goal.returns-then-key-ne56-clause-number
returns-then-key-ne56-clause-number c = λ refused. (WrongLength, c.refusal_number.ensures.0, inr (no_room (length c.args.key.now) c.args.lms_type c.args.ots_type c.args.key_id.now c.args.seed.now c.if-key-ne56.true))
