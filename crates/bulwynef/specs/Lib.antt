pub mod Answered
pub mod Explained
pub mod Handed
pub mod Judged
pub mod Programs
