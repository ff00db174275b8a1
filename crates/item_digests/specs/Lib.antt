pub mod Digests
pub mod Feeding
