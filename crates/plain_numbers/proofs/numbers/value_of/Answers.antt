use Rattle.std.proofs.Common.{◌∙◌, List, ℕ, sym, subst}
use Rattle.std.specs.Str.Parse.{ParsesUnsigned}
use Rattle.plain_numbers.proofs.Digits.{no_text, read_plain, unplain}
use Rattle.plain_numbers.proofs.numbers.value_of.Goals as goal

pub returns-then-not-is_plain : goal.returns-then-not-is_plain
returns-then-not-is_plain c = unplain c.args.word.now (sym c.is_plain.ensures ∙ c.if-not-is_plain.true)

pub returns-in-Ok : goal.returns-in-Ok
returns-in-Ok c =
    let is = c.in-Ok.ensures.cases.0 in
    let parsed = subst (λ (word : List ℕ). ParsesUnsigned 64 10 word c.parse.result) is c.parse.ensures.value.0 in
    rw c.ok.ensures.value (read_plain c.args.word.now c.parse.result (sym c.is_plain.ensures ∙ c.if-not-is_plain.false) parsed)

pub returns-in-Err : goal.returns-in-Err
returns-in-Err c = no_text c.args.word.now c.in-Err.ensures.cases.0
