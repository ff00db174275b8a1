use Rattle.mailbox_laws.proofs.Answering.{answers_are_not_answered}
use Rattle.mailbox_laws.proofs.answers_are_not_answered.Goals as goal

pub returns : goal.returns
returns c = answers_are_not_answered
