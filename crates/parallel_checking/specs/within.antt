pub mod Placing
pub mod Blocks
