use Rattle.kept_items.specs.Positions.{stated}
use Rattle.node_tables.specs.Rooms.{IsReleased, TakesBack, bodies_of, rows_of}
use Rattle.node_tables.specs.Steps.{wanted}
use Rattle.node_tables.specs.within.Promising.{nothing}
use Rattle.node_tables.proofs.Reserved.{released}
use Rattle.node_tables.proofs.Stepping.{ascend_still, each_then}
use Rattle.node_tables.proofs.releasing.release_item.Goals as goal

pub release_body-requires : goal.release_body-requires
release_body-requires g c = ascend_still (TakesBack (wanted (stated c.args.kept.now) c.positions.result) nothing) c.args.tables.now c.release_first.new.tables (λ t u step. step.roomier.node) c.release_first.ensures c.requires

pub returns : goal.returns
returns g c =
    let x = c.args.kept.now in
    each_then (TakesBack (rows_of x) nothing) (TakesBack nothing (bodies_of x)) (IsReleased x) (released x) c.args.tables.now c.release_first.new.tables c.release_body.new.tables (rw c.positions.ensures at c.release_first.ensures) c.release_body.ensures
