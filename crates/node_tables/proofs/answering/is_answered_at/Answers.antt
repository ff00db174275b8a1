use Rattle.std.proofs.Common.{◌≡◌, true, length, refl, sym, subst, ◌∙◌}
use Rattle.std.proofs.lemmas.Option.{get_or_from_slice_get, slice_get_read}
use Rattle.evidence_set.specs.Challenges.{is_against}
use Rattle.node_tables.specs.declared.table.Table.{Table}
use Rattle.node_tables.proofs.answering.is_answered_at.Goals as goal

pub is_answered_in-requires-clause-others : goal.is_answered_in-requires-clause-others
is_answered_in-requires-clause-others g c =
    let t = c.index-tables-i.result in
    c.requires.others c.args.i t (slice_get_read c.args.tables.now (length c.args.tables.now) c.args.i t refl c.requires.inside c.index-tables-i.is)

pub is_answered_in-requires-clause-asked : goal.is_answered_in-requires-clause-asked
is_answered_in-requires-clause-asked g c =
    let t = c.index-tables-i.result in
    c.requires.asked c.args.i t (slice_get_read c.args.tables.now (length c.args.tables.now) c.args.i t refl c.requires.inside c.index-tables-i.is)

pub returns : goal.returns
returns g c = λ t at against.
    c.is_answered_in.ensures (subst (λ (u : Table). is_against u.node c.args.kept.now.item.fields ≡ true) (sym (c.index-tables-i.is ∙ get_or_from_slice_get c.args.tables.now c.args.i t c.index-tables-i.result at)) against)
