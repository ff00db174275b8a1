use Rattle.std.proofs.Common.{List, ℕ, inr, rules, subst}
use Rattle.std.specs.Prelude.{IsTrue}
use Rattle.commands.specs.HexLines.{lines_of}
use Rattle.commands.specs.within.Feeding.{AreDigits, AreSpelled}
use Rattle.commands.proofs.SpelledLines.{all_good, first_bad, others_bad, spell_some}
use Rattle.commands.proofs.lines.first_text.Goals as goal
use Rattle.commands.proofs.lines.first_text.Goals.{then-not-is_hex-via-then-not-is_hex, then-not-is_hex-via-else-not-is_hex+then-not-are_hex}

pub returns-then-not-is_hex-clause-told : goal.returns-then-not-is_hex-clause-told
returns-then-not-is_hex-clause-told c = elim c.then-not-is_hex.branch [
  | then-not-is_hex-via-then-not-is_hex w ↦ inr (first_bad c.args.text.now c.in-Some.first.now (lines_of c.in-Some.others.now) c.in-Some.ensures.line (λ hex. absurd (cc (c.is_hex.ensures.1 hex))))
  | then-not-is_hex-via-else-not-is_hex+then-not-are_hex w ↦
      let is : IsTrue c.is_hex.result = search rules in
      inr (others_bad c.args.text.now c.in-Some.first.now (lines_of c.in-Some.others.now) c.in-Some.ensures.line (c.is_hex.ensures.0 is) (λ all. absurd (cc (w.are_hex.ensures.1 all))))
]

pub returns-clause-told : goal.returns-clause-told
returns-clause-told c =
    let is : IsTrue c.are_hex.result = search rules in
    let all = c.are_hex.ensures.0 is in
    let (texts, spelled) = spell_some (lines_of c.in-Some.others.now) all in
    let good = all_good c.args.text.now c.in-Some.first.now (lines_of c.in-Some.others.now) c.in-Some.ensures.line c.in_ok-bytes.bytes.items texts c.in_ok-bytes.ensures spelled in
    (texts, good, subst (λ (t : List ℕ). AreSpelled (lines_of t) texts) c.in-Some.ensures.behind spelled, subst (λ (t : List ℕ). AreDigits (lines_of t)) c.in-Some.ensures.behind all)
