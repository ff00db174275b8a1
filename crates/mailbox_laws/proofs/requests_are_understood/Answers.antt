use Rattle.mailbox_laws.proofs.Asking.{requests_are_understood}
use Rattle.mailbox_laws.proofs.requests_are_understood.Goals as goal

pub returns : goal.returns
returns c = requests_are_understood
