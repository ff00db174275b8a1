use Rattle.commands.proofs.SpelledLines.{even_is_hex}
use Rattle.commands.proofs.lines.is_hex.Goals as goal

pub returns-then-line-eq0 : goal.returns-then-line-eq0
returns-then-line-eq0 c = even_is_hex c.args.line.now c.has_digits.result c.if-line-eq0.true c.has_digits.ensures
