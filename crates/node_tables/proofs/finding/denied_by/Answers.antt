use Rattle.std.proofs.Common.{◌≡◌, ◌≤◌, ◌<◌, ◌+◌, ℕ, List, false, get_or, length, subst, sym, ◌∙◌, arith}
use Rattle.std.proofs.lemmas.List.{get_or_default}
use Rattle.std.specs.List.{Contains}
use Rattle.node_tables.specs.declared.span.Span.{Span}
use Rattle.kept_items.specs.Positions.{shown}
use Rattle.node_tables.specs.Tables.{AreSpans, IsSpan, denies_at}
use Rattle.node_tables.specs.within.Spanning.{NoneIsAround}
use Rattle.node_tables.proofs.Spans.{all_undenied, undenied_from}
use Rattle.node_tables.proofs.finding.denied_by.Goals as goal

pub loop-place-preserved : goal.loop-place-preserved
loop-place-preserved g c =
    let items = c.args.items.now in
    let a = shown c.args.said.now in
    let all = c.as_slice-all.result.now in
    let place = c.in-Some.place in
    let e : Span = record { item = 0; low = 0; last = 0 } in
    let spans = subst (λ (l : List Span). AreSpans items c.args.node l) (sym c.as_slice-all.ensures) c.requires in
    let some = c.in-Some.ensures.some in
    let none = subst (λ (l : List Span). NoneIsAround c.saturating_add-from.result c.args.said.now.seq l (place + 1) c.loop-place.before) (sym c.as_slice-all.ensures) some.2 in
    let inside : place < length all = omega (arith, some.0, c.loop-place.invariant.inside) in
    let undenied : denies_at items a (get_or all place e).item ≡ false = sym c.is_denied_at.ensures ∙ c.if-is_denied_at.false in
    record {
      inside = omega (arith, inside);
      none = undenied_from items c.args.node a all c.saturating_add-from.result place c.loop-place.before spans
          (λ p is lo. omega (arith, is.fits, lo, c.saturating_add-from.ensures))
          (λ d. subst (λ (q : Span). denies_at items a q.item ≡ false) (get_or_default all place e d inside) undenied)
          none
          c.loop-place.invariant.none;
    }

pub returns-clause-none : goal.returns-clause-none
returns-clause-none g c =
    let items = c.args.items.now in
    let a = shown c.args.said.now in
    let spans = c.args.spans.now.items in
    let behind = subst (λ (l : List Span). (k : ℕ) (d : Span) → c.loop-place.before ≤ k → k < length l → denies_at items a (get_or l k d).item ≡ false) c.as_slice-all.ensures c.loop-place.invariant.none in
    all_undenied items c.args.node a spans c.saturating_add-from.result c.loop-place.before c.requires
    (λ p is lo. omega (arith, is.fits, lo, c.saturating_add-from.ensures))
    c.in_default.ensures.none
    behind
