use Rattle.bundles.specs.Grammar.{bytes_in}
use Rattle.bundles.proofs.HexDigits.{spelled_bytes, unspelled}
use Rattle.bundles.proofs.Steps.{no_line, says_none, says_some}
use Rattle.bundles.proofs.form.digits_at.Goals as goal

pub returns-in_default : goal.returns-in_default
returns-in_default c = no_line bytes_in c.args.at.now c.refusal.result (c.in_default.ensures, c.refusal.ensures)

pub returns-then-not-spells_bytes : goal.returns-then-not-spells_bytes
returns-then-not-spells_bytes c =
    says_none bytes_in c.args.at.now c.in-Some.behind c.in-Some.line.now c.refusal-then-not-spells_bytes.result c.in-Some.ensures
    (unspelled c.in-Some.line.now (bytes_in c.in-Some.line.now) c.spells_bytes.result c.spells_bytes.ensures c.if-not-spells_bytes.true) c.refusal-then-not-spells_bytes.ensures

pub returns : goal.returns
returns c =
    let (bytes, says, spelled) = spelled_bytes c.in-Some.line.now (bytes_in c.in-Some.line.now) c.spells_bytes.result c.spells_bytes.ensures c.if-not-spells_bytes.false in
    (bytes, spelled, says_some bytes_in c.args.at.now c.in-Some.behind c.in-Some.line.now bytes c.in-Some.ensures says)
