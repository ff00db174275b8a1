use Rattle.std.proofs.Common.{◌≡◌, ◌∙◌, ℕ, List}
use Rattle.std.specs.Prelude.{MatchResult}
use Rattle.bundling.specs.Handing.{IsMade, RefusesMaking}
use Rattle.bulwynef.specs.Programs.{meaning_of, spelling_of}
use Rattle.bulwynef.specs.declared.programs.ProgramName.TheVariants as program
use Rattle.bulwynef.proofs.Named.{of_row}
use Rattle.bulwynef.proofs.handing.made.Goals as goal

pub returns-in-Tally : goal.returns-in-Tally
returns-in-Tally c =
    let spelled : c.as_bytes-spelling.result.now ≡ spelling_of c.args.handing.now.name = c.as_bytes-spelling.ensures.value ∙ c.word.ensures in
    of_row (λ name spelling. MatchResult c.make.result (λ text. IsMade (meaning_of name) spelling c.args.directory.now c.args.proof.now c.args.handing.now.more.now text.items) (λ f. RefusesMaking (meaning_of name) spelling c.args.directory.now c.args.proof.now c.args.handing.now.more.now f))
    c.args.handing.now.name program.Tally c.as_bytes-spelling.result.now c.in-Tally.is spelled c.make.ensures

pub returns-in-Relay : goal.returns-in-Relay
returns-in-Relay c =
    let spelled : c.as_bytes-spelling.result.now ≡ spelling_of c.args.handing.now.name = c.as_bytes-spelling.ensures.value ∙ c.word.ensures in
    of_row (λ name spelling. MatchResult c.make-in-Relay.result (λ text. IsMade (meaning_of name) spelling c.args.directory.now c.args.proof.now c.args.handing.now.more.now text.items) (λ f. RefusesMaking (meaning_of name) spelling c.args.directory.now c.args.proof.now c.args.handing.now.more.now f))
    c.args.handing.now.name program.Relay c.as_bytes-spelling.result.now c.in-Relay.is spelled c.make-in-Relay.ensures

pub returns-in-Mailbox : goal.returns-in-Mailbox
returns-in-Mailbox c =
    let spelled : c.as_bytes-spelling.result.now ≡ spelling_of c.args.handing.now.name = c.as_bytes-spelling.ensures.value ∙ c.word.ensures in
    of_row (λ name spelling. MatchResult c.make-in-Mailbox.result (λ text. IsMade (meaning_of name) spelling c.args.directory.now c.args.proof.now c.args.handing.now.more.now text.items) (λ f. RefusesMaking (meaning_of name) spelling c.args.directory.now c.args.proof.now c.args.handing.now.more.now f))
    c.args.handing.now.name program.Mailbox c.as_bytes-spelling.result.now c.in-Mailbox.is spelled c.make-in-Mailbox.ensures
