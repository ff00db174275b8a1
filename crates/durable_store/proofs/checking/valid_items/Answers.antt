use Rattle.std.proofs.Common.{rules, ◌≡◌, ◌∷◌, ◌+◌, ◌∙◌, ap, length, subst, sym, Result}
use Rattle.std.specs.Vec.Iter.{into_iter_items}
use Rattle.evidence_item.specs.Checking.{Checked}
use Rattle.evidence_item.specs.declared.fault.ItemFault.{ItemFault}
use Rattle.durable_store.specs.within.Findings.{IsBad, refusal_of}
use Rattle.durable_store.proofs.Answering.{bad, ends, goes_on}
use Rattle.durable_store.proofs.checking.valid_items.Goals as goal

pub loop-answer-preserved : goal.loop-answer-preserved
loop-answer-preserved g c =
    let next : into_iter_items c.loop-answer.answer-iterator ≡ c.in-Some.answer ∷ into_iter_items c.next.new.self = search rules in
    goes_on g.P.Program.means c.args.answers.items c.args.before _ _ c.in-Ok.checked _ _ (next ∙ ap (λ (a : Result Checked ItemFault). a ∷ into_iter_items c.next.new.self) c.in-Ok.is) c.in_ok-push-in-Ok.ensures.items c.loop-answer.invariant

pub returns-in-Err-clause-bad : goal.returns-in-Err-clause-bad
returns-in-Err-clause-bad g c = λ ds items are.
    let next : into_iter_items c.loop-answer.answer-iterator ≡ c.in-Some.answer ∷ into_iter_items c.next.new.self = search rules in
    let is : c.refusal.result ≡ refusal_of (c.args.before + length c.loop-answer.valid.items) c.in-Err.fault = search rules in
    subst (IsBad ds items c.args.before) (sym is)
    (bad g.P.Program.means c.valid_items_have_no_fault.ensures ds items c.args.before _ c.in-Err.fault _ _ (next ∙ ap (λ (a : Result Checked ItemFault). a ∷ into_iter_items c.next.new.self) c.in-Err.is) (c.loop-answer.invariant.each ds items are))

pub returns-clause-valid : goal.returns-clause-valid
returns-clause-valid g c = λ ds items are.
    let none : length (into_iter_items c.loop-answer.answer-iterator) ≡ 0 = search rules in
    ends g.P.Program.means ds items _ _ none (c.loop-answer.invariant.each ds items are)
