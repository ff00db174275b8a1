use Rattle.std.proofs.Common.{◌≡◌, filter, map, take}
use Rattle.mailbox.specs.MailboxMeaning.{is_for, sent}
use Rattle.mailbox.proofs.steps.sent_to.Given as goal

abbrev pub invariant-loop-mail : goal.invariant-loop-mail
invariant-loop-mail l = l.outputs.items ≡ map sent (filter (is_for l.to) (take l.mail-index l.mails))
