use Rattle.std.proofs.Common.{rules, ◌≡◌, ℕ, List, All, subst, sym}
use Rattle.page_text.specs.Escaping.{IsInert, escaped}
use Rattle.page_text.proofs.Inert.{escaped_inert}
use Rattle.page_text.proofs.Legible.{legible_once}
use Rattle.page_text.proofs.escaping.escaped.Goals as goal

pub returns-clause-inert : goal.returns-clause-inert
returns-clause-inert c =
    let P : List ℕ → Type 0 = λ t. All IsInert t in
    let same : c.escape.new.page.items ≡ escaped c.args.text.now = search rules in
    subst P (sym same) (escaped_inert c.args.text.now c.are_bytes.ensures)

pub returns-clause-apart : goal.returns-clause-apart
returns-clause-apart c = λ other bytes same. legible_once other c.args.text.now bytes c.are_bytes.ensures same
