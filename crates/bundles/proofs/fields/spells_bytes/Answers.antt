use Rattle.std.proofs.lemmas.Bool.{ne_eqb}
use Rattle.bundles.proofs.HexDigits.{never, spell_even, spell_odd}
use Rattle.bundles.proofs.fields.spells_bytes.Goals as goal

pub returns-then-line-eq0 : goal.returns-then-line-eq0
returns-then-line-eq0 c = spell_even c.args.line.now c.are_digits.result c.if-line-eq0.true c.are_digits.ensures

pub returns-else-line-eq0 : goal.returns-else-line-eq0
returns-else-line-eq0 c = never c.args.line.now _ (ne_eqb _ 0 c.if-line-eq0.false) (spell_odd c.args.line.now (ne_eqb _ 0 c.if-line-eq0.false))
