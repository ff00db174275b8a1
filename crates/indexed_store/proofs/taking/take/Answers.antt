use Rattle.std.proofs.Common.{◌≡◌, List, [], ◌∷◌, ◌++◌, refl, sym, ap, ◌∙◌}
use Rattle.evidence_item.specs.Checking.{Checked}
use Rattle.evidence_set.specs.ItemSets.{insert, set_of}
use Rattle.evidence_set.proofs.SetLists.{sets_count}
use Rattle.kept_evidence.proofs.Bridge.{set_has}
use Rattle.kept_evidence.proofs.Taken.{is_new, not_new}
use Rattle.node_tables.proofs.Many.{one_grows}
use Rattle.indexed_store.proofs.Digested.{pushed_still, same_still}
use Rattle.indexed_store.proofs.Owed.{awaits, comes_to_rest, first_room, readier_store, rest_awaited, still_rests}
use Rattle.indexed_store.proofs.taking.take.Goals as goal

pub returns-in_default-clause-told : goal.returns-in_default-clause-told
returns-in_default-clause-told g c = not_new c.args.index.now.items.items c.args.checked.item (rw (c.deref.ensures.value, c.item.ensures) at c.in_default.ensures.there)

pub returns-in_default-clause-taken : goal.returns-in_default-clause-taken
returns-in_default-clause-taken g c =
    sym (sets_count.held (set_of c.args.index.now.items.items) c.args.checked.item ((set_has c.args.index.now.items.items c.args.checked.item).1 (rw (c.deref.ensures.value, c.item.ensures) at c.in_default.ensures.there)))

pub returns-in_err-keeping-clause-held : goal.returns-in_err-keeping-clause-held
returns-in_err-keeping-clause-held g c = λ has. absurd ((rw (c.deref.ensures.value, c.item.ensures) at c.in-Err.ensures.gap).absent ((set_has c.args.index.now.items.items c.args.checked.item).0 has))

pub returns-in_default-prepare-clause-held : goal.returns-in_default-prepare-clause-held
returns-in_default-prepare-clause-held g c = λ has. absurd ((rw (c.deref.ensures.value, c.item.ensures) at c.in-Err.ensures.gap).absent ((set_has c.args.index.now.items.items c.args.checked.item).0 has))

pub returns-clause-held : goal.returns-clause-held
returns-clause-held g c = λ has. absurd ((rw (c.deref.ensures.value, c.item.ensures) at c.in-Err.ensures.gap).absent ((set_has c.args.index.now.items.items c.args.checked.item).0 has))

pub returns-clause-told : goal.returns-clause-told
returns-clause-told g c = is_new c.args.index.now.items.items c.args.checked.item (rw (c.deref.ensures.value, c.item.ensures) at c.in-Err.ensures.gap).absent

pub returns-clause-taken : goal.returns-clause-taken
returns-clause-taken g c =
    let old = c.args.index.now.items.items in
    let x = c.commit.result in
    let is = c.add.ensures.items ∙ ap (λ (l : List Checked). l ++ x ∷ []) c.prepare.ensures.same.items in
    one_grows old c.add.new.index.items.items x is ∙ ap (insert (set_of old)) (ap (λ (k : Checked). k.item) c.commit.ensures ∙ c.in_ok-keeping.ensures.kept.0)

pub returns-in_default-prepare-clause-store : goal.returns-in_default-prepare-clause-store
returns-in_default-prepare-clause-store g c = record {
  rest = still_rests _ _ _ _ c.prepare.ensures.same c.in_default-prepare.ensures.refused c.requires.store;
  still = same_still _ _ c.prepare.ensures.same.items;
}

pub returns-in_default-clause-store : goal.returns-in_default-clause-store
returns-in_default-clause-store g c = record { rest = c.requires.store; still = λ i k at. at }

pub returns-in_err-keeping-clause-store : goal.returns-in_err-keeping-clause-store
returns-in_err-keeping-clause-store g c = record { rest = c.requires.store; still = λ i k at. at }

pub add-requires-clause-store : goal.add-requires-clause-store
add-requires-clause-store g c = readier_store _ _ _ _ c.prepare.ensures.same c.requires.store.indexed

pub add-requires-clause-whole : goal.add-requires-clause-whole
add-requires-clause-whole g c = rw c.commit.ensures c.in_ok-keeping.ensures.whole

pub add-requires-clause-gap : goal.add-requires-clause-gap
add-requires-clause-gap g c =
    let gap = rw (c.deref.ensures.value, c.item.ensures) at c.in-Err.ensures.gap in
    rw (c.prepare.ensures.same.items, c.prepare.ensures.same.order, c.commit.ensures, c.in_ok-keeping.ensures.kept.0) gap

pub add-requires-clause-room : goal.add-requires-clause-room
add-requires-clause-room g c =
    let is : c.item-2.result.now ∷ [] ≡ c.commit.result ∷ [] = ap (λ (x : Checked). x ∷ []) (c.item-2.ensures ∙ sym c.commit.ensures) in
    first_room _ [] _ is _ (awaits _ _ _ c.requires.store.owes c.in-Ok.ensures.ready)

pub returns-clause-store : goal.returns-clause-store
returns-clause-store g c =
    let is : c.item-2.result.now ∷ [] ≡ c.commit.result ∷ [] = ap (λ (x : Checked). x ∷ []) (c.item-2.ensures ∙ sym c.commit.ensures) in
    record {
      rest = comes_to_rest _ _ [] _ refl c.add.ensures.store (rest_awaited _ [] _ is _ _ (awaits _ _ _ c.requires.store.owes c.in-Ok.ensures.ready) c.add.ensures.joins);
      still = pushed_still c.args.index.now.items.items c.add.new.index.items.items c.commit.result (c.add.ensures.items ∙ ap (λ (l : List Checked). l ++ c.commit.result ∷ []) c.prepare.ensures.same.items);
    }
