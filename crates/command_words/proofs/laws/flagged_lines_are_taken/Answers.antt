use Rattle.command_words.proofs.PlainLines.{flagged_lines}
use Rattle.command_words.proofs.laws.flagged_lines_are_taken.Goals as goal

pub returns : goal.returns
returns c = flagged_lines
