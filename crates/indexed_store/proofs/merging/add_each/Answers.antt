use Rattle.std.proofs.Common.{◌≡◌, ◌∷◌, List, length, subst, sym, ap, arith, rules}
use Rattle.std.specs.List.{Contains}
use Rattle.std.specs.Vec.Iter.{into_iter_items}
use Rattle.evidence_item.specs.Checking.{Checked}
use Rattle.evidence_set.specs.ItemSets.{Join, set_of}
use Rattle.kept_evidence.specs.Kept.{IsWhole}
use Rattle.node_tables.proofs.Many.{at_end, empty_end, step_joins, whole_behind, whole_first}
use Rattle.indexed_store.specs.within.Resting.{IsAwaiting}
use Rattle.indexed_store.proofs.Digested.{then_still}
use Rattle.indexed_store.proofs.Owed.{comes_to_rest, first_room, rest_awaited}
use Rattle.indexed_store.proofs.merging.add_each.Goals as goal

pub loop-item-init : goal.loop-item-init
loop-item-init g c =
    let given : into_iter_items c.into_iter-item-iterator.result ≡ c.args.more.items = c.into_iter-item-iterator.ensures.into_iter_gives.0 in
    record {
      store = c.requires.store;
      whole = subst (λ (l : List Checked). (k : Checked) → Contains l k → IsWhole c.args.directory.now g.P.Program.means k) (sym given) c.requires.whole;
      awaiting = subst (λ (l : List Checked). IsAwaiting l c.args.index.now) (sym given) c.requires.awaiting;
      joined = ap (λ (l : List Checked). Join (set_of c.args.index.now.items.items) (set_of l)) given;
      grows = omega arith;
      still = λ i k at. at;
    }

pub add_new-requires-clause-whole : goal.add_new-requires-clause-whole
add_new-requires-clause-whole g c =
    let next : into_iter_items c.loop-item.item-iterator ≡ c.in-Some.item ∷ into_iter_items c.next.new.self = search rules in
    whole_first (IsWhole c.args.directory.now g.P.Program.means) _ _ _ next c.loop-item.invariant.whole

pub add_new-requires-clause-room : goal.add_new-requires-clause-room
add_new-requires-clause-room g c =
    let next : into_iter_items c.loop-item.item-iterator ≡ c.in-Some.item ∷ into_iter_items c.next.new.self = search rules in
    first_room _ _ _ next _ c.loop-item.invariant.awaiting

pub loop-item-preserved : goal.loop-item-preserved
loop-item-preserved g c =
    let before = c.loop-item.invariant in
    let next : into_iter_items c.loop-item.item-iterator ≡ c.in-Some.item ∷ into_iter_items c.next.new.self = search rules in
    record {
      store = c.add_new.ensures.store;
      whole = whole_behind (IsWhole c.args.directory.now g.P.Program.means) _ _ _ next before.whole;
      awaiting = rest_awaited _ _ _ next _ _ before.awaiting c.add_new.ensures.joins;
      joined = step_joins (set_of c.loop-item.index.items.items) (set_of c.add_new.new.index.items.items) _ _ _ _ next c.add_new.ensures.grown before.joined;
      grows = omega (arith, before.grows, c.add_new.ensures.joins.grows);
      still = then_still _ _ _ before.still c.add_new.ensures.still;
    }

pub returns-clause-store : goal.returns-clause-store
returns-clause-store g c =
    let none : length (into_iter_items c.loop-item.item-iterator) ≡ 0 = search rules in
    comes_to_rest _ _ _ _ (empty_end (into_iter_items c.loop-item.item-iterator) (omega (arith, none))) c.loop-item.invariant.store c.loop-item.invariant.awaiting

pub returns-clause-joined : goal.returns-clause-joined
returns-clause-joined g c =
    let none : length (into_iter_items c.loop-item.item-iterator) ≡ 0 = search rules in
    at_end c.loop-item.index.items.items (into_iter_items c.loop-item.item-iterator) _ (empty_end (into_iter_items c.loop-item.item-iterator) (omega (arith, none))) c.loop-item.invariant.joined
