-- The faulty relays keep the laws of a program.
use Rattle.replay_verifier.specs.Meaning.{Lawful}
use Rattle.state_codec.specs.StateLaws.{empty_stays}
use Rattle.mailbox.specs.declared.held.TheConstants.{MOST_MAILS}
use Rattle.mailbox.specs.HeldMails.{IsHeld, IsMail}
use Rattle.mailbox.specs.MailboxLaws.{mailbox_lawful}
use Rattle.mailbox_tour.specs.FaultyMeaning.{changing, forgetful}

pub forgetful_lawful : Lawful IsHeld forgetful
forgetful_lawful = record {
  starts = mailbox_lawful.starts;
  steps = λ me held h m fits happens.
      let after = mailbox_lawful.steps me held h m fits happens in
      (after.0, (after.1.0, empty_stays MOST_MAILS IsMail));
  again = mailbox_lawful.again;
  only = mailbox_lawful.only;
  short = mailbox_lawful.short;
}

pub changing_lawful : Lawful IsHeld changing
changing_lawful = record { starts = mailbox_lawful.starts; steps = mailbox_lawful.steps; again = mailbox_lawful.again; only = mailbox_lawful.only; short = mailbox_lawful.short }
