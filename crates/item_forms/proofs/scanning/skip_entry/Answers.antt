use Rattle.std.proofs.Common.{refl}
use Rattle.item_forms.specs.Reading.{entry_at}
use Rattle.item_forms.proofs.scanning.skip_entry.Goals as goal

pub returns-clause-skips : goal.returns-clause-skips
unfolding entry_at
returns-clause-skips c = (record { seq = c.in_ok-_seq._seq; kind = c.in_ok-_kind._kind; content = c.in_ok-_content._content.now }, rw (c.in_ok-_seq.ensures, c.in_ok-_kind.ensures, c.in_ok-_content.ensures) refl)
