pub mod Shared
pub mod within
