use Rattle.std.proofs.Common.{◌∙◌, ℕ, List, ap}
use Rattle.answers.specs.Texts.{standings_text}
use Rattle.operating.specs.Questions.{asked}
use Rattle.operating.proofs.status.ReportingQuestionStore.answer.Goals as goal

pub returns-clause-told : goal.returns-clause-told
returns-clause-told g c =
    let style = c.args.self.now.style in
    let name = c.args.self.now.name.now in
    let rows = c.in_ok-standings.standings.entries in
    let kept = ap (standings_text style name c.deref.result.now) c.keep.ensures in
    let here = ap (λ (d : List ℕ). standings_text style name d (asked c.args.self.now.scope rows)) c.deref.ensures.value in
    (rows, c.in_ok-standings.ensures, c.in_ok-text.ensures ∙ kept ∙ here, c.ending_of-ending.ensures)
