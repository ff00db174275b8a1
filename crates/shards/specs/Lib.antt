pub mod Extracts
pub mod Parts
pub mod within
