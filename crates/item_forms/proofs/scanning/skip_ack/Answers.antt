use Rattle.std.proofs.Common.{refl}
use Rattle.item_forms.specs.Reading.{ack_at}
use Rattle.item_forms.proofs.scanning.skip_ack.Goals as goal

pub returns-clause-skips : goal.returns-clause-skips
unfolding ack_at
returns-clause-skips c = (record { message = c.in_ok-skip_message.ensures.skips.0; seq = c.in_ok-_seq._seq; prev = c.in_ok-_prev._prev; sig = c.in_ok-_sig._sig.now }, rw (c.in_ok-skip_message.ensures.skips.1, c.in_ok-_seq.ensures, c.in_ok-_prev.ensures, c.in_ok-_sig.ensures) refl)
