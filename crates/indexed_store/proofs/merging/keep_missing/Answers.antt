use Rattle.std.proofs.Common.{◌≡◌, ◌∷◌, true, false, length, rules, sym, ap, ◌∙◌}
use Rattle.std.specs.Vec.Iter.{into_iter_items}
use Rattle.kept_evidence.specs.Kept.{is_kept}
use Rattle.indexed_store.proofs.Gathered.{begins, ends, goes_on, next_checked, passes_over}
use Rattle.indexed_store.proofs.merging.keep_missing.Goals as goal

pub loop-item-init : goal.loop-item-init
loop-item-init g c = begins c.args.directory.now g.P.Program.means c.args.index.now.items.items _ _ _ c.new-kept.ensures.items c.into_iter-item-iterator.ensures.into_iter_gives.0 c.requires.checked

pub kept_of-requires : goal.kept_of-requires
kept_of-requires g c =
    let next : into_iter_items c.loop-item.item-iterator ≡ c.in-Some.item ∷ into_iter_items c.next.new.self = search rules in
    next_checked c.args.directory.now g.P.Program.means c.args.index.now.items.items _ _ _ _ c.in-Some.item next c.loop-item.invariant

pub returns-clause-pieces : goal.returns-clause-pieces
returns-clause-pieces g c =
    let none : length (into_iter_items c.loop-item.item-iterator) ≡ 0 = search rules in
    ends c.args.directory.now g.P.Program.means c.args.index.now.items.items _ _ _ none c.loop-item.invariant

pub returns-clause-whole : goal.returns-clause-whole
returns-clause-whole g c = c.loop-item.invariant.whole

pub loop-item-preserved-then-has : goal.loop-item-preserved-then-has
loop-item-preserved-then-has g c =
    let next : into_iter_items c.loop-item.item-iterator ≡ c.in-Some.item ∷ into_iter_items c.next.new.self = search rules in
    let held : is_kept c.args.index.now.items.items c.in-Some.item.item ≡ true = ap (is_kept c.args.index.now.items.items) (sym c.item-in-loop-item.ensures) ∙ sym c.has.ensures ∙ c.if-has.true in
    passes_over c.args.directory.now g.P.Program.means c.args.index.now.items.items _ _ _ _ c.in-Some.item next held c.loop-item.invariant

pub loop-item-preserved : goal.loop-item-preserved
loop-item-preserved g c =
    let next : into_iter_items c.loop-item.item-iterator ≡ c.in-Some.item ∷ into_iter_items c.next.new.self = search rules in
    let new : is_kept c.args.index.now.items.items c.in-Some.item.item ≡ false = ap (is_kept c.args.index.now.items.items) (sym c.item-in-loop-item.ensures) ∙ sym c.has.ensures ∙ c.if-has.false in
    goes_on c.args.directory.now g.P.Program.means c.args.index.now.items.items _ _ _ _ _ c.in-Some.item _ next new c.in_ok-push.ensures.items c.in_ok-kept_of.ensures.item c.in_ok-kept_of.ensures.whole c.loop-item.invariant
