pub mod Refusals
pub mod Scenarios
pub mod Spelling
pub mod Instructions
pub mod within
