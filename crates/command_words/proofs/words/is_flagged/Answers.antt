use Rattle.std.proofs.Common.{◌∙◌, ap, sym, Option}
use Rattle.clap.proofs.WalkLemmas.{one_text-rows}
use Rattle.clap.specs.Words.{found_of, rows_of}
use Rattle.command_words.specs.declared.words.Flag.{Flag}
use Rattle.command_words.specs.CommandLine.{flag_name, flag_of}
use Rattle.command_words.proofs.words.is_flagged.Goals as goal

pub returns-in-Some-clause-on : goal.returns-in-Some-clause-on
returns-in-Some-clause-on c = λ e.
    let found = found_of c.args.options.now in
    let same = ap (λ (f : Option Flag). flag_of (flag_name f) (rows_of found)) c.in-Some.is in
    c.get_flag.ensures.value (one_text-rows found _ ∙ sym same ∙ e)

pub returns-in-Some-clause-off : goal.returns-in-Some-clause-off
returns-in-Some-clause-off c = λ e.
    let found = found_of c.args.options.now in
    let same = ap (λ (f : Option Flag). flag_of (flag_name f) (rows_of found)) c.in-Some.is in
    c.get_flag.ensures.other (one_text-rows found _ ∙ sym same ∙ e)
