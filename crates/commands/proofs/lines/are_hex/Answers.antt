use Rattle.std.proofs.Common.{rules}
use Rattle.std.specs.Prelude.{IsTrue}
use Rattle.commands.proofs.SpelledLines.{one_less}
use Rattle.commands.proofs.lines.are_hex.Goals as goal

pub loop-line-preserved : goal.loop-line-preserved
loop-line-preserved c =
    let is : IsTrue c.is_hex.result = search rules in
    one_less c.args.text.now c.loop-line.rest.now c.in-Some.line.now c.in-Some.more.now c.loop-line.invariant c.in-Some.ensures.line (c.is_hex.ensures.0 is)
