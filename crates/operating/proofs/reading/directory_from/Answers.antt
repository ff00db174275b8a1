use Rattle.std.proofs.Common.{◌∙◌, sym, subst}
use Rattle.authenticators.specs.DirectoryText.{directory_of}
use Rattle.commands.specs.within.OwnFaults.{IsOwn}
use Rattle.commands.proofs.Refused.{directory_own}
use Rattle.operating.proofs.Steps.{no_directory}
use Rattle.operating.proofs.reading.directory_from.Goals as goal

pub returns-in-Err-clause-refused : goal.returns-in-Err-clause-refused
returns-in-Err-clause-refused c =
    let (told, file, item) = c.of_text.ensures in
    ((file, item), no_directory (directory_of c.args.text.now) c.in-Err.fault c.of_text.result.fault (told ∙ c.from.ensures) c.in-Err.ensures.exact)

pub returns-in-Err-clause-own : goal.returns-in-Err-clause-own
returns-in-Err-clause-own c =
    let (told, file, item) = c.of_text.ensures in
    subst IsOwn (sym (told ∙ c.from.ensures)) (directory_own c.in-Err.fault)
