use Rattle.parallel_checking.proofs.Joining.{answers_of}
use Rattle.parallel_checking.proofs.checking.check_all.Goals as goal

pub returns-in-Ok-joined-clause-answers : goal.returns-in-Ok-joined-clause-answers
returns-in-Ok-joined-clause-answers g c =
    answers_of c.args.directory.now g.P.Program.means c.args.items.now c.in-Ok.blocks.items c.deref.result.now c.in-Ok-check_blocks.parts.items c.in-Ok-joined.answers.items c.in-Ok.ensures.items c.deref.ensures.value
    c.in-Ok-check_blocks.ensures c.in-Ok-joined.ensures.whole c.in-Ok-joined.ensures.items
