use Rattle.command_words.proofs.PlainLines.{plain_lines}
use Rattle.command_words.proofs.laws.plain_lines_are_taken.Goals as goal

pub returns : goal.returns
returns c = plain_lines
