use Rattle.mailbox_laws.proofs.Mails.{old_mails_are_dropped}
use Rattle.mailbox_laws.proofs.old_mails_are_dropped.Goals as goal

pub returns : goal.returns
returns c = old_mails_are_dropped
