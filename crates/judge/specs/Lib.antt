pub mod Judging
pub mod Programs
pub mod Refusals
