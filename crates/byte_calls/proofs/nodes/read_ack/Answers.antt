use Rattle.byte_calls.proofs.Evident.{spelled_so}
use Rattle.byte_calls.proofs.nodes.read_ack.Goals as goal

pub returns-clause-spelled : goal.returns-clause-spelled
returns-clause-spelled g c = spelled_so c.evident.result c.args.directory.now c.in_ok-item.item.fields c.args.text.now c.in_ok-item.ensures.found c.evident.ensures.exact
