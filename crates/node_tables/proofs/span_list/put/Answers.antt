use Rattle.std.proofs.Common.{◌≡◌, ◌+◌, ◌-◌, ◌≤◌, ◌⊎◌, List, [], ◌∷◌, ◌++◌, length, take, ap, subst, sym, ◌∙◌, arith}
use Rattle.std.proofs.lemmas.List.{take-append-le}
use Rattle.std.specs.List.Sorted.{IsPermutation}
use Rattle.std.specs.List.{Contains}
use Rattle.std.specs.Prelude.{◌↔◌}
use Rattle.node_tables.specs.declared.span.Span.{Span}
use Rattle.node_tables.proofs.Spanned.{bound_before, members_put, written_over}
use Rattle.node_tables.proofs.span_list.put.Goals as goal

pub bound_from-requires-clause-before : goal.bound_from-requires-clause-before
bound_from-requires-clause-before c =
    let spans = c.args.spans.now.items in
    let bounds = c.args.bounds.now.items in
    let start = c.len-place.result + 1 - c.joined-run.result.count in
    let sorted = written_over c.push_reserved.new.self.len c.sort_from.new.spans _ (sym (c.sort_from.auto.spans ∙ c.deref_mut.ensures.len)) in
    let inside : start ≤ length bounds = omega arith in
    let within : start ≤ length spans = omega arith in
    bound_before spans c.deref-3.result.now bounds c.deref_mut-2.result.now (length bounds) start c.requires.bounded.each inside
    (ap (take start) (c.deref-3.ensures.value ∙ sorted) ∙ c.sort_from.ensures.before ∙ ap (take start) (c.deref_mut.ensures.value ∙ c.push_reserved.ensures.items) ∙ take-append-le start spans (c.args.span ∷ []) within)
    (ap (take start) (c.deref_mut-2.ensures.value ∙ c.push_reserved-2.ensures.items) ∙ take-append-le start bounds (c.joined-run.result ∷ []) inside)

pub returns-clause-members : goal.returns-clause-members
returns-clause-members c = λ q.
    let spans = c.args.spans.now.items in
    let sorted = written_over c.push_reserved.new.self.len c.sort_from.new.spans _ (sym (c.sort_from.auto.spans ∙ c.deref_mut.ensures.len)) in
    let moved = subst (λ (l : List Span). IsPermutation l c.sort_from.new.spans) (c.deref_mut.ensures.value ∙ c.push_reserved.ensures.items) c.sort_from.ensures.same in
    subst (λ (l : List Span). Contains l q ↔ (Contains spans q ⊎ (q ≡ c.args.span))) (sym sorted) (members_put spans c.sort_from.new.spans c.args.span q moved)
