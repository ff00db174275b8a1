use Rattle.byte_calls.proofs.Replied.{reply_refused}
use Rattle.byte_calls.proofs.nodes.answer.Goals as goal

pub returns-clause-refused : goal.returns-clause-refused
returns-clause-refused g c = reply_refused g.P.Program.means c.args.challenge.now c.args.entropy.now c.args.node.now c.directory.result.now c.in_ok-checked.checked.item.fields c.in_ok-entropy.entropy c.reply.result c.directory.ensures c.in_ok-entropy.ensures c.in_ok-checked.ensures.exact c.reply.ensures.refused
