use Rattle.mailbox_laws.proofs.Mails.{fetches_are_sent}
use Rattle.mailbox_laws.proofs.fetches_are_sent.Goals as goal

pub returns : goal.returns
returns c = fetches_are_sent
