use Rattle.kept_items.specs.Positions.{shown}
use Rattle.node_tables.proofs.Again.{again_undenied}
use Rattle.node_tables.proofs.finding.brought_by.Goals as goal

pub returns-then-is_again_beside-clause-none : goal.returns-then-is_again_beside-clause-none
returns-then-is_again_beside-clause-none g c =
    let again = c.is_again_beside.ensures c.if-is_again_beside.true in
    record {
      beside = c.in_default.ensures.none;
      undenied = again_undenied c.args.items.now c.args.rows.now.items c.args.spans.now.items (shown c.args.said.now) c.requires.quiet again.0 again.1 again.2;
    }
