use Rattle.bundles.specs.Grammar.{program_in}
use Rattle.bundles.proofs.Steps.{no_line, says_none, says_some}
use Rattle.bundles.proofs.form.program_at.Goals as goal

pub returns-in_default : goal.returns-in_default
returns-in_default c = no_line (program_in) c.args.at.now c.refusal.result (c.in_default.ensures, c.refusal.ensures)

pub returns-in-Some-program_in : goal.returns-in-Some-program_in
returns-in-Some-program_in c = says_some (program_in) c.args.at.now c.in-Some.behind c.in-Some.line.now _ c.in-Some.ensures (c.in-Some-program_in.ensures)

pub returns-in-None : goal.returns-in-None
returns-in-None c =
    says_none (program_in) c.args.at.now c.in-Some.behind c.in-Some.line.now c.refusal-in-None.result c.in-Some.ensures (c.in-None.ensures) c.refusal-in-None.ensures
