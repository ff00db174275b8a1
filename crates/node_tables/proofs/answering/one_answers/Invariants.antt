use Rattle.std.proofs.Common.{◌≡◌, false, take}
use Rattle.std.specs.List.{list_any}
use Rattle.node_tables.specs.declared.span.Span.{Span}
use Rattle.node_tables.specs.within.Placing.{answers_at}
use Rattle.node_tables.proofs.answering.one_answers.Given as goal

abbrev pub invariant-loop-span : goal.invariant-loop-span
invariant-loop-span g l = list_any (λ (p : Span). answers_at l.items l.challenge p.item) (take l.span-index l.spans) ≡ false
