use Rattle.std.proofs.Common.{sym, ◌∙◌}
use Rattle.node_tables.proofs.Between.{below_parted, between, up_to_parted}
use Rattle.node_tables.proofs.segments.rows_between.Goals as goal

pub edge_below-start-requires : goal.edge_below-start-requires
edge_below-start-requires g c = let t = c.requires in below_parted c.args.items.now c.args.table.now.rows.items t.held t.rows t.ascending (λ a b in_a in_b. t.own a in_a ∙ sym (t.own b in_b)) c.args.low

pub edge_up_to-end-requires : goal.edge_up_to-end-requires
edge_up_to-end-requires g c = let t = c.requires in up_to_parted c.args.items.now c.args.table.now.rows.items t.held t.rows t.ascending (λ a b in_a in_b. t.own a in_a ∙ sym (t.own b in_b)) c.args.last

pub returns : goal.returns
returns g c =
    between c.args.items.now c.args.table.now.rows.items c.args.low c.args.last c.edge_below-start.result c.edge_up_to-end.result c.edge_below-start.ensures.edge c.edge_up_to-end.ensures.edge c.edge_up_to-end.ensures.inside
