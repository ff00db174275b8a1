use Rattle.std.proofs.Common.{arith}
use Rattle.scenarios.proofs.Digits.{no_number, number_above, number_is}
use Rattle.scenarios.proofs.numbers.number_to.Goals as goal

pub returns-in-Some-clause-read : goal.returns-in-Some-clause-read
returns-in-Some-clause-read c = number_is c.args.most c.in-Some.number c.args.word.now c.in-Some.ensures c.if-number-most.true

pub returns-in_default-clause-read : goal.returns-in_default-clause-read
returns-in_default-clause-read c = number_above c.args.most c.in-Some.number c.args.word.now c.in-Some.ensures c.if-number-most.false

pub returns-in_default-2-clause-read : goal.returns-in_default-2-clause-read
returns-in_default-2-clause-read c = no_number c.args.most c.args.word.now c.in_default.ensures (omega arith)
