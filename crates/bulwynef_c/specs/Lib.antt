pub mod Answers
pub mod Calls
pub mod Codes
pub mod Handles
pub mod Journals
pub mod Owned
pub mod Programs
