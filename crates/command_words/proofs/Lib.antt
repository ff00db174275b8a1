pub mod FoundWords
pub mod Numbers
pub mod PlainLines
