use Rattle.std.proofs.Common.{rules}
use Rattle.item_forms.specs.Forms.{shown}
use Rattle.evidence_item.proofs.OtherForms.{judged_other}
use Rattle.evidence_item.proofs.checking.judge.Goals as goal

pub returns-in_default : goal.returns-in_default
returns-in_default g c =
    let j = judged_other c.args.directory.now g.P.Program.means (shown c.args.form) c.judge_other.result (search rules) c.judge_other.ensures in
    record { valid = j.valid; refused = j.refused; lent = λ other. j.lent; forbidden = j.forbidden }
