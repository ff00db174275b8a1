use Rattle.std.proofs.Common.{◌∙◌, ap, ap₂}
use Rattle.std.proofs.lemmas.Result.{IfOk-weaker}
use Rattle.clap.proofs.SimpleLemmas.{plain_fields}
use Rattle.clap.specs.Words.{App, with_subcommand}
use Rattle.command_words.specs.CommandLine.{flag_name}
use Rattle.command_words.proofs.FoundWords.{plain_is_plain, prove_is_plain, run_is_plain}
use Rattle.command_words.proofs.words.command.Goals as goal

pub returns : goal.returns
returns c =
    let flag = flag_name c.args.flag in
    let top = λ (a : App). a.top in
    let is_plain = λ (a : App). a.top.is_plain in
    let status = c.in_ok-status.ensures in
    let merge = c.in_ok-merge.ensures in
    let check = c.in_ok-check.ensures in
    let prove = c.in_ok-prove.ensures in
    let run = c.in_ok-run.ensures in
    let one = c.in_ok-subcommand.ensures.shape (plain_fields _ (ap is_plain status ∙ plain_is_plain flag _)).globals ∙ ap₂ with_subcommand c.alone.ensures (ap top status) in
    let two = c.in_ok-subcommand-2.ensures.shape (plain_fields _ (ap is_plain merge ∙ plain_is_plain flag _)).globals ∙ ap₂ with_subcommand one (ap top merge) in
    let three = c.in_ok-subcommand-3.ensures.shape (plain_fields _ (ap is_plain prove ∙ prove_is_plain flag)).globals ∙ ap₂ with_subcommand two (ap top prove) in
    let four = c.in_ok-subcommand-4.ensures.shape (plain_fields _ (ap is_plain check ∙ plain_is_plain flag _)).globals ∙ ap₂ with_subcommand three (ap top check) in
    IfOk-weaker c.subcommand-5.result _ _ (λ r h. h.shape (plain_fields _ (ap is_plain run ∙ run_is_plain flag)).globals ∙ ap₂ with_subcommand four (ap top run)) c.subcommand-5.ensures
