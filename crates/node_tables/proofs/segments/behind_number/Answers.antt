use Rattle.std.proofs.Common.{sym, ◌∙◌}
use Rattle.node_tables.proofs.Alike.{alike_behind, alike_none, before_edge}
use Rattle.node_tables.proofs.Between.{up_to_parted}
use Rattle.node_tables.proofs.segments.behind_number.Goals as goal

pub edge_up_to-requires : goal.edge_up_to-requires
edge_up_to-requires g c = let t = c.requires.told in up_to_parted c.args.items.now c.args.table.now.rows.items t.held t.rows t.ascending (λ a b in_a in_b. t.own a in_a ∙ sym (t.own b in_b)) c.in-Some.number

pub returns-in-None-clause-alike : goal.returns-in-None-clause-alike
returns-in-None-clause-alike g c = alike_none c.args.items.now c.args.table.now c.args.place c.args.end c.requires.inside c.requires.most c.requires.told (λ d lt. sym (c.number_at.ensures d lt) ∙ c.in-None.is)

pub returns-in-Some-clause-more : goal.returns-in-Some-clause-more
returns-in-Some-clause-more g c =
    before_edge c.args.items.now c.args.table.now c.args.place c.args.end c.requires.inside c.requires.most c.in-Some.number c.edge_up_to.result (λ d lt. sym (c.number_at.ensures d lt) ∙ c.in-Some.is) c.edge_up_to.ensures.edge

pub returns-in-Some-clause-alike : goal.returns-in-Some-clause-alike
returns-in-Some-clause-alike g c =
    alike_behind c.args.items.now c.args.table.now c.args.place c.args.end c.requires.inside c.requires.most c.requires.told c.in-Some.number c.edge_up_to.result (λ d lt. sym (c.number_at.ensures d lt) ∙ c.in-Some.is) c.edge_up_to.ensures.edge
