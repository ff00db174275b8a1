use Rattle.mailbox_laws.proofs.Asking.{texts_are_written}
use Rattle.mailbox_laws.proofs.texts_are_written.Goals as goal

pub returns : goal.returns
returns c = texts_are_written
