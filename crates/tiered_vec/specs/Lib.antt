pub mod Tiers
pub mod within
