use Rattle.std.proofs.Common.{ap, ◌∙◌}
use Rattle.node_tables.specs.within.Placing.{subject_by}
use Rattle.node_tables.proofs.Bodied.{segment_here}
use Rattle.node_tables.proofs.bodies.put_form.Goals as goal

pub put_whole_segment-requires-clause-segment : goal.put_whole_segment-requires-clause-segment
put_whole_segment-requires-clause-segment g c = segment_here c.args.items.now c.args.place c.args.table.now.node c.args.kept.now c.requires.here c.in-None.ensures.none c.requires.own

pub put_whole_segment-requires-clause-room : goal.put_whole_segment-requires-clause-room
put_whole_segment-requires-clause-room g c = (c.requires.due.room (ap subject_by c.requires.here ∙ c.requires.own)).spans
