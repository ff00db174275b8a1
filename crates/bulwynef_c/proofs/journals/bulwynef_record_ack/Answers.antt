use Rattle.std.proofs.Common.{inl, refl}
use Rattle.byte_calls.specs.declared.refusal.Refusal.TheVariants.{Memory}
use Rattle.bulwynef_c.proofs.journals.bulwynef_record_ack.Goals as goal

pub returns-in-Ok-clause-number : goal.returns-in-Ok-clause-number
returns-in-Ok-clause-number c = λ closed refused. (Memory, c.put.ensures.number refused, inl refl)
