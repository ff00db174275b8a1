pub mod Decimals
pub mod within
