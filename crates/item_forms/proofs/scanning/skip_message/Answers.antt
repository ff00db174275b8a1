use Rattle.std.proofs.Common.{refl}
use Rattle.item_forms.specs.Reading.{message_at}
use Rattle.item_forms.proofs.scanning.skip_message.Goals as goal

pub returns-clause-skips : goal.returns-clause-skips
unfolding message_at
returns-clause-skips c = (record { from = c.in_ok-_from._from; to = c.in_ok-_to._to; seq = c.in_ok-_seq._seq; prev = c.in_ok-_prev._prev; sig = c.in_ok-_sig._sig.now; payload = c.in_ok-_payload._payload.now }, rw (c.in_ok-_from.ensures, c.in_ok-_to.ensures, c.in_ok-_seq.ensures, c.in_ok-_prev.ensures, c.in_ok-_sig.ensures, c.in_ok-_payload.ensures) refl)
