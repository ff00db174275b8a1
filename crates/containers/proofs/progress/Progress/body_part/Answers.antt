use Rattle.std.proofs.Common.{◌<◌, length, arith}
use Rattle.std.proofs.lemmas.Grind.{common_steps}
use Rattle.containers.specs.CheckedItems.{checked_of}
use Rattle.containers.proofs.Parting.{refusal_of_pieces}
use Rattle.containers.proofs.progress.Progress.body_part.Goals as goal

pub returns-else-is_empty-clause-refused : goal.returns-else-is_empty-clause-refused
returns-else-is_empty-clause-refused g c =
    let some : 0 < length c.args.self.now.body.items = grind (arith, common_steps, c.is_empty.ensures, c.if-is_empty.false) in
    refusal_of_pieces (checked_of c.args.directory.now) c.args.self.now c.args.rest.now c.body_of_pieces.result some c.body_of_pieces.ensures.refused c.body_of_pieces.ensures.of_items
