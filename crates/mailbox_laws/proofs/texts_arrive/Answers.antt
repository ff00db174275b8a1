use Rattle.mailbox_laws.proofs.Mails.{texts_arrive}
use Rattle.mailbox_laws.proofs.texts_arrive.Goals as goal

pub returns : goal.returns
returns c = texts_arrive
