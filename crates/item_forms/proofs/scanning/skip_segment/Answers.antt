use Rattle.std.proofs.Common.{refl}
use Rattle.item_forms.specs.Reading.{segment_at}
use Rattle.item_forms.proofs.scanning.skip_segment.Goals as goal

pub returns-clause-skips : goal.returns-clause-skips
unfolding segment_at
returns-clause-skips c = (record { node = c.in_ok-_node._node; prev = c.in_ok-_prev._prev; entries = c.in_ok-skip_entries.ensures.skips.0; sig = c.in_ok-_sig._sig.now }, rw (c.in_ok-_node.ensures, c.in_ok-_prev.ensures, c.in_ok-skip_entries.ensures.skips.1, c.in_ok-_sig.ensures) refl)
