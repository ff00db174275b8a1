use Rattle.std.proofs.Common.{List, ap, ◌∙◌, arith}
use Rattle.item_forms.specs.Pieces.{Piece}
use Rattle.evidence_set.specs.ItemSets.{Join, insert_all, none, set_of}
use Rattle.kept_evidence.proofs.Added.{counted, missing_apart, missing_joins, missing_kept}
use Rattle.plain_store.proofs.merging.take_all.Goals as goal

pub add_all-requires-clause-more : goal.add_all-requires-clause-more
add_all-requires-clause-more g c =
    rw (c.drop_kept.ensures, c.deref.ensures.value) (missing_kept c.args.directory.now g.P.Program.means c.args.kept.now.items c.find_each.new.items.items c.in_ok-find_each.ensures.kept)

pub add_all-requires-clause-apart : goal.add_all-requires-clause-apart
add_all-requires-clause-apart g c = rw (c.drop_kept.ensures, c.deref.ensures.value) (missing_apart c.args.kept.now.items c.find_each.new.items.items)

pub returns-clause-told : goal.returns-clause-told
returns-clause-told g c =
    let before = counted c.args.kept.now.items c.requires.store.items.ascending in
    let after = counted c.add_all.new.kept.items c.in_ok-add_all.ensures.store.items.ascending in
    omega (arith, before, after, c.in_ok-add_all.ensures.count, c.len-new.ensures)

pub returns-clause-joined : goal.returns-clause-joined
returns-clause-joined g c =
    rw (c.drop_kept.ensures, c.deref.ensures.value) at c.in_ok-add_all.ensures.joined ∙ missing_joins c.args.kept.now.items c.find_each.new.items.items
    ∙ ap (λ (xs : List Piece). Join (set_of c.args.kept.now.items) (insert_all none xs)) c.in_ok-find_each.ensures.pieces
