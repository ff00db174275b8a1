use Rattle.std.proofs.Common.{◌≡◌, map, subst, ◌∙◌}
use Rattle.std.specs.Prelude.{◌↔◌}
use Rattle.std.specs.List.{Contains}
use Rattle.item_forms.specs.Pieces.{Piece}
use Rattle.evidence_set.specs.Indications.{IsUnanswered}
use Rattle.evidence_set.specs.ItemSets.{Has, pieces, set_of}
use Rattle.node_tables.specs.Places.{IsAgainstAt}
use Rattle.node_tables.proofs.Meant.{open_ascend, open_members}
use Rattle.indexed_store.proofs.Listed.{lent_named, open_against}
use Rattle.indexed_store.proofs.challenges.open_challenges.Goals as goal

pub returns-in_default : goal.returns-in_default
returns-in_default g c = let (t, has, own) = c.requires.store.listed c.args.node c.requires.listed in absurd (c.in_default.ensures.none t has own)

pub challenges_at-requires : goal.challenges_at-requires
challenges_at-requires g c = λ i has.
    let t = c.in-Some.table.now in
    let (k, at, own) = c.in-Some.ensures.some in
    let items = c.args.index.now.items.items in
    rw c.deref.ensures.value (subst (λ j. IsAgainstAt items j i) own (open_against items t.node i (((c.requires.store.each k t at).unanswered i).0 has)))

pub returns : goal.returns
returns g c =
    let items = c.args.index.now.items.items in
    let store = c.requires.store in
    let t = c.in-Some.table.now in
    let (k, at, own) = c.in-Some.ensures.some in
    let table = store.each k t at in
    let found = map (λ i. i.now) c.in_ok-found.found.items in
    let listed : found ≡ pieces table.asked.spelled.named = (rw c.deref.ensures.value at c.in_ok-found.ensures) ∙ lent_named items t.unanswered.items table.asked.spelled.named table.asked.spelled.names in
    record {
      members = subst (λ j. (x : Piece) → Contains found x ↔ (Has (set_of items) x × IsUnanswered c.args.directory.now (set_of items) j x.fields)) own
          (open_members c.args.directory.now g.P.Program.means c.deviating_lists_do_not_conform.ensures items c.args.index.now.order.items store.ordered store.whole t table found listed);
      ascending = open_ascend c.args.directory.now g.P.Program.means c.deviating_lists_do_not_conform.ensures items c.args.index.now.order.items store.ordered store.whole t table found listed;
    }
