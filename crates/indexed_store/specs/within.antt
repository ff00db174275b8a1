pub mod Digested
pub mod Resting
