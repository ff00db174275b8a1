pub mod HeldMails
pub mod MailboxLaws
pub mod MailboxMeaning
pub mod UserWishes
