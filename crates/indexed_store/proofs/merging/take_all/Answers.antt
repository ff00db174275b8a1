use Rattle.std.proofs.Common.{List, ap, ◌∙◌}
use Rattle.item_forms.specs.Pieces.{Piece}
use Rattle.evidence_set.specs.ItemSets.{Join, insert_all, none, set_of}
use Rattle.kept_evidence.proofs.Added.{missing_joins}
use Rattle.indexed_store.proofs.merging.take_all.Goals as goal

pub returns-clause-joined : goal.returns-clause-joined
returns-clause-joined g c =
    c.in_ok-new.ensures.joined ∙ ap (λ (xs : List Piece). Join (set_of c.args.index.now.items.items) (insert_all none xs)) c.in_ok-more.ensures.pieces ∙ missing_joins c.args.index.now.items.items c.args.checked.items
