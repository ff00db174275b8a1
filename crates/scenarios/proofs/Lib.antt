pub mod Digits
pub mod LineSteps
pub mod Parts
pub mod ReadScripts
pub mod Sayings
pub mod WrittenLines
pub mod WrittenScripts
