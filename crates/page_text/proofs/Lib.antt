pub mod Inert
pub mod Legible
pub mod Whole
