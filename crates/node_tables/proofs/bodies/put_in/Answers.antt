use Rattle.std.proofs.Common.{arith}
use Rattle.node_tables.proofs.Bodied.{put_back}
use Rattle.node_tables.proofs.bodies.put_in.Goals as goal

pub returns : goal.returns
returns g c = put_back c.args.items.now c.args.place c.saturating_sub-table.result c.release.new.self c.args.kept.now c.args.table.now c.put_form.new.table c.requires.here c.requires.own c.put_form.ensures (omega arith) c.release.ensures
