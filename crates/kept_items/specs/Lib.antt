pub mod Keeping
pub mod Links
pub mod Positions
pub mod within
