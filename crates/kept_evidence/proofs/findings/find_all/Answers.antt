use Rattle.std.proofs.Common.{◌∙◌, arith}
use Rattle.kept_evidence.proofs.FoundEach.{all_of, one_more}
use Rattle.kept_evidence.proofs.findings.find_all.Goals as goal

pub loop-checked-preserved : goal.loop-checked-preserved
loop-checked-preserved g c =
    one_more c.args.directory.now g.P.Program.means c.loop-checked.checked-items _ c.loop-checked.checked-index c.find.new.checked _
    (omega (arith, c.loop-checked-test.true, c.loop-checked.auto.checked-items)) c.find.ensures.same.0 c.find.ensures.checked c.in_ok-find.ensures.whole c.loop-checked.invariant

pub returns-clause-whole : goal.returns-clause-whole
returns-clause-whole g c =
    all_of c.args.directory.now g.P.Program.means c.loop-checked.checked-items _ c.args.items.now.len c.loop-checked.checked-index
    (c.loop-checked.auto.checked-items ∙ c.deref_mut-checked-items.ensures.len)
    (omega (arith, c.loop-checked-test.false, c.deref_mut-checked-items.ensures.len)) c.loop-checked.invariant.2
