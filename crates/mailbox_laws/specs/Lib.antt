pub mod MailLaws
