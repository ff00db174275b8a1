use Rattle.std.proofs.Common.{refl}
use Rattle.item_forms.specs.Reading.{statement_at}
use Rattle.item_forms.proofs.scanning.skip_statement.Goals as goal

pub returns-clause-skips : goal.returns-clause-skips
unfolding statement_at
returns-clause-skips c = (record { seq = c.in_ok-_seq._seq; hash = c.in_ok-_hash._hash; sig = c.in_ok-_sig._sig.now }, rw (c.in_ok-_seq.ensures, c.in_ok-_hash.ensures, c.in_ok-_sig.ensures) refl)
