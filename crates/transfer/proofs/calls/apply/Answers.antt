use Rattle.std.proofs.Common.{List, ap, subst, sym, ◌∙◌}
use Rattle.std.specs.List.{filter}
use Rattle.std.specs.List.Sorted.{IsStrictlySortedBy}
use Rattle.std.proofs.lemmas.List.Kept.{IsStrictlySortedBy-filter}
use Rattle.item_forms.specs.Pieces.{by_bytes}
use Rattle.evidence_item.specs.Checking.{Checked}
use Rattle.evidence_set.specs.ItemSets.{pieces}
use Rattle.evidence.specs.Contents.{with_items}
use Rattle.transfer.proofs.Applied.{is_missing, joined}
use Rattle.transfer.proofs.calls.apply.Goals as goal

pub take_all-requires-clause-ascending : goal.take_all-requires-clause-ascending
take_all-requires-clause-ascending g c =
    let E = (g.S.Evidence.contents c.args.store.now).items in
    subst (IsStrictlySortedBy by_bytes) (sym c.in_ok-items.ensures.items)
    (subst (λ (l : List Checked). IsStrictlySortedBy by_bytes (filter (is_missing E) (pieces l))) (sym c.items.ensures.items)
    (IsStrictlySortedBy-filter by_bytes (is_missing E) (pieces c.args.pack.now) c.items.ensures.ascending))

pub returns-clause-joined : goal.returns-clause-joined
returns-clause-joined g c =
    let s = g.S.Evidence.contents c.args.store.now in
    c.in_ok-new.ensures.joined
    ∙ ap (with_items s) (joined c.sets_are_lists.ensures c.joins_are_as_expected.ensures c.joins_are_least_upper_bounds.ensures s.items (pieces c.args.pack.now) (pieces c.in_ok-items.items.items)
    (c.in_ok-items.ensures.items ∙ ap (λ (l : List Checked). filter (is_missing s.items) (pieces l)) c.items.ensures.items))
