pub mod Bases
pub mod Texts
