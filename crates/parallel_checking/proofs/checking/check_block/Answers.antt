use Rattle.std.proofs.Common.{Result, subst}
use Rattle.std.proofs.lemmas.List.{get_or_read}
use Rattle.item_forms.specs.Pieces.{Piece}
use Rattle.evidence_item.specs.declared.fault.ItemFault.{ItemFault}
use Rattle.evidence_item.specs.Checking.{Checked}
use Rattle.evidence_item.proofs.Examinations.{beside_all, beside_more}
use Rattle.parallel_checking.specs.Checks.{IsAnswer}
use Rattle.parallel_checking.proofs.Joining.{known_got}
use Rattle.parallel_checking.proofs.checking.check_block.Goals as goal

pub check_known-answer-requires : goal.check_known-answer-requires
check_known-answer-requires g c =
    known_got c.args.directory.now c.args.block.now.items.now c.examine_some-examined.result.items c.deref.result.now c.loop-k.k c.index-items-k.result c.get.result c.examine_some-examined.ensures c.deref.ensures.value
    c.get.ensures.lookup.0 c.get.ensures.lookup.1 c.loop-k-test.true c.index-items-k.is

pub loop-k-preserved : goal.loop-k-preserved
loop-k-preserved g c =
    let items = c.args.block.now.items.now in
    let program = g.P.Program.means in
    let answer = c.check_known-answer.result in
    beside_more (λ (x : Piece) (r : Result Checked ItemFault). IsAnswer c.args.directory.now program x r) items c.loop-k.answers.items c.push.new.self.items c.loop-k.k answer c.loop-k.invariant
    (λ d. subst (λ (x : Piece). IsAnswer c.args.directory.now program x answer) (get_or_read items c.loop-k.k c.index-items-k.result c.loop-k-test.true c.index-items-k.is d) c.check_known-answer.ensures)
    c.in_ok-push.ensures.items

pub returns : goal.returns
returns g c =
    let all = beside_all (λ (x : Piece) (r : Result Checked ItemFault). IsAnswer c.args.directory.now g.P.Program.means x r) c.args.block.now.items.now c.loop-k.answers.items c.loop-k.k c.loop-k-test.false c.loop-k.auto.k-end c.loop-k.invariant in
    record { count = all.count; each = λ n r below x. all.each n x r below }
