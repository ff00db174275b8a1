pub mod Claiming
pub mod within
