use Rattle.authenticators.proofs.ClashNotes.{clash_by, no_clash, one_point}
use Rattle.authenticators.proofs.noting.is_clash.Goals as goal

pub conflict_among-requires-clause-one_point : goal.conflict_among-requires-clause-one_point
conflict_among-requires-clause-one_point c = one_point c.args.held.now c.range.result.now c.args.clash.now c.range.ensures

pub returns-in-None-clause-no : goal.returns-in-None-clause-no
returns-in-None-clause-no c = λ _. no_clash c.args.held.now c.range.result.now c.args.clash.now c.range.ensures c.in-None.ensures.none

pub returns-in-Some-clause-yes : goal.returns-in-Some-clause-yes
returns-in-Some-clause-yes c = λ _.
    let (in_a, in_b, conflict) = c.in-Some.ensures.two in
    clash_by c.args.held.now c.range.result.now c.args.clash.now c.range.ensures c.in-Some.field-0.0.now c.in-Some.field-0.1.now in_a in_b conflict
