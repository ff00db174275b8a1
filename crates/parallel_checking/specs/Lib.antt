pub mod Again
pub mod Checks
pub mod Parts
pub mod Refusals
pub mod within
