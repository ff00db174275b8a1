use Rattle.std.proofs.Common.{◌≡◌, ◌∙◌, ℕ, List, sym, subst}
use Rattle.std.specs.Prelude.{MatchResult}
use Rattle.bundling.specs.Convicting.{RefusesTexts}
use Rattle.answers.specs.declared.style.Style.{Style}
use Rattle.bulwynef.specs.Judged.{Judged}
use Rattle.bulwynef.specs.Programs.{meaning_of, spelling_of}
use Rattle.bulwynef.specs.declared.programs.ProgramName.{ProgramName}
use Rattle.bulwynef.specs.declared.programs.ProgramName.TheVariants as program
use Rattle.bulwynef.proofs.Named.{of_row}
use Rattle.bulwynef.proofs.bundled.judged.Goals as goal

pub returns-in-Tally : goal.returns-in-Tally
returns-in-Tally c =
    let spelled : c.as_bytes-spelling.result.now ≡ spelling_of c.args.name = c.as_bytes-spelling.ensures.value ∙ c.word.ensures in
    of_row (λ name spelling. MatchResult c.judge.result (λ said. Judged c.args.style (meaning_of name) spelling c.args.directory.now c.args.bundle.now said.text.items said.agrees) (λ f. RefusesTexts (meaning_of name) c.args.directory.now c.args.bundle.now.proof f))
    c.args.name program.Tally c.as_bytes-spelling.result.now c.in-Tally.is spelled
    (subst (λ (style : Style). MatchResult c.judge.result (λ said. Judged style (meaning_of program.Tally) c.as_bytes-spelling.result.now c.args.directory.now c.args.bundle.now said.text.items said.agrees) (λ f. RefusesTexts (meaning_of program.Tally) c.args.directory.now c.args.bundle.now.proof f)) (sym c.in-Lines.is) c.judge.ensures)

pub returns-in-Relay : goal.returns-in-Relay
returns-in-Relay c =
    let spelled : c.as_bytes-spelling.result.now ≡ spelling_of c.args.name = c.as_bytes-spelling.ensures.value ∙ c.word.ensures in
    of_row (λ name spelling. MatchResult c.judge-in-Relay.result (λ said. Judged c.args.style (meaning_of name) spelling c.args.directory.now c.args.bundle.now said.text.items said.agrees) (λ f. RefusesTexts (meaning_of name) c.args.directory.now c.args.bundle.now.proof f))
    c.args.name program.Relay c.as_bytes-spelling.result.now c.in-Relay.is spelled
    (subst (λ (style : Style). MatchResult c.judge-in-Relay.result (λ said. Judged style (meaning_of program.Relay) c.as_bytes-spelling.result.now c.args.directory.now c.args.bundle.now said.text.items said.agrees) (λ f. RefusesTexts (meaning_of program.Relay) c.args.directory.now c.args.bundle.now.proof f)) (sym c.in-Lines.is) c.judge-in-Relay.ensures)

pub returns-in-Mailbox : goal.returns-in-Mailbox
returns-in-Mailbox c =
    let spelled : c.as_bytes-spelling.result.now ≡ spelling_of c.args.name = c.as_bytes-spelling.ensures.value ∙ c.word.ensures in
    of_row (λ name spelling. MatchResult c.judge-in-Mailbox.result (λ said. Judged c.args.style (meaning_of name) spelling c.args.directory.now c.args.bundle.now said.text.items said.agrees) (λ f. RefusesTexts (meaning_of name) c.args.directory.now c.args.bundle.now.proof f))
    c.args.name program.Mailbox c.as_bytes-spelling.result.now c.in-Mailbox.is spelled
    (subst (λ (style : Style). MatchResult c.judge-in-Mailbox.result (λ said. Judged style (meaning_of program.Mailbox) c.as_bytes-spelling.result.now c.args.directory.now c.args.bundle.now said.text.items said.agrees) (λ f. RefusesTexts (meaning_of program.Mailbox) c.args.directory.now c.args.bundle.now.proof f)) (sym c.in-Lines.is) c.judge-in-Mailbox.ensures)

pub returns-in-Tally-name : goal.returns-in-Tally-name
returns-in-Tally-name c =
    let spelled : c.as_bytes-spelling.result.now ≡ spelling_of c.args.name = c.as_bytes-spelling.ensures.value ∙ c.word.ensures in
    of_row (λ name spelling. MatchResult c.judge_in_json.result (λ said. Judged c.args.style (meaning_of name) spelling c.args.directory.now c.args.bundle.now said.text.items said.agrees) (λ f. RefusesTexts (meaning_of name) c.args.directory.now c.args.bundle.now.proof f))
    c.args.name program.Tally c.as_bytes-spelling.result.now c.in-Tally-name.is spelled
    (subst (λ (style : Style). MatchResult c.judge_in_json.result (λ said. Judged style (meaning_of program.Tally) c.as_bytes-spelling.result.now c.args.directory.now c.args.bundle.now said.text.items said.agrees) (λ f. RefusesTexts (meaning_of program.Tally) c.args.directory.now c.args.bundle.now.proof f)) (sym c.in-Json.is) c.judge_in_json.ensures)

pub returns-in-Relay-name : goal.returns-in-Relay-name
returns-in-Relay-name c =
    let spelled : c.as_bytes-spelling.result.now ≡ spelling_of c.args.name = c.as_bytes-spelling.ensures.value ∙ c.word.ensures in
    of_row (λ name spelling. MatchResult c.judge_in_json-in-Relay-name.result (λ said. Judged c.args.style (meaning_of name) spelling c.args.directory.now c.args.bundle.now said.text.items said.agrees) (λ f. RefusesTexts (meaning_of name) c.args.directory.now c.args.bundle.now.proof f))
    c.args.name program.Relay c.as_bytes-spelling.result.now c.in-Relay-name.is spelled
    (subst (λ (style : Style). MatchResult c.judge_in_json-in-Relay-name.result (λ said. Judged style (meaning_of program.Relay) c.as_bytes-spelling.result.now c.args.directory.now c.args.bundle.now said.text.items said.agrees) (λ f. RefusesTexts (meaning_of program.Relay) c.args.directory.now c.args.bundle.now.proof f)) (sym c.in-Json.is) c.judge_in_json-in-Relay-name.ensures)

pub returns-in-Mailbox-name : goal.returns-in-Mailbox-name
returns-in-Mailbox-name c =
    let spelled : c.as_bytes-spelling.result.now ≡ spelling_of c.args.name = c.as_bytes-spelling.ensures.value ∙ c.word.ensures in
    of_row (λ name spelling. MatchResult c.judge_in_json-in-Mailbox-name.result (λ said. Judged c.args.style (meaning_of name) spelling c.args.directory.now c.args.bundle.now said.text.items said.agrees) (λ f. RefusesTexts (meaning_of name) c.args.directory.now c.args.bundle.now.proof f))
    c.args.name program.Mailbox c.as_bytes-spelling.result.now c.in-Mailbox-name.is spelled
    (subst (λ (style : Style). MatchResult c.judge_in_json-in-Mailbox-name.result (λ said. Judged style (meaning_of program.Mailbox) c.as_bytes-spelling.result.now c.args.directory.now c.args.bundle.now said.text.items said.agrees) (λ f. RefusesTexts (meaning_of program.Mailbox) c.args.directory.now c.args.bundle.now.proof f)) (sym c.in-Json.is) c.judge_in_json-in-Mailbox-name.ensures)
