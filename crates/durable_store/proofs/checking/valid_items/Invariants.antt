use Rattle.std.specs.Vec.Iter.{into_iter_items}
use Rattle.durable_store.specs.within.Answered.{CheckingAll}
use Rattle.durable_store.proofs.checking.valid_items.Given as goal

abbrev pub invariant-loop-answer : goal.invariant-loop-answer
invariant-loop-answer g l = CheckingAll g.P.Program.means l.fn.answers.items l.fn.before l.valid.items (into_iter_items l.answer-iterator)
