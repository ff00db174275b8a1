pub mod Shown
pub mod within
