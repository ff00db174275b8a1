pub mod Bytes
pub mod Equality
pub mod Outcome
