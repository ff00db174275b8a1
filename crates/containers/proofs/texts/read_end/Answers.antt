use Rattle.std.proofs.Common.{◌≡◌, ◌<◌, length, arith}
use Rattle.containers.proofs.Rest.{at_end, trailing}
use Rattle.containers.proofs.texts.read_end.Goals as goal

pub returns-then-left-gt0-clause-refused : goal.returns-then-left-gt0-clause-refused
returns-then-left-gt0-clause-refused c = λ reads last before same.
    let left = c.left.ensures in
    let more = c.if-left-gt0.true in
    let some : 0 < length c.args.reader.now = omega (arith, left, more) in
    trailing reads last before c.args.reader.now c.args.items some same

pub returns-clause-read : goal.returns-clause-read
returns-clause-read c = λ reads last before.
    let left = c.left.ensures in
    let more = c.if-left-gt0.false in
    let none : length c.args.reader.now ≡ 0 = omega (arith, left, more) in
    at_end reads last before c.args.reader.now none
