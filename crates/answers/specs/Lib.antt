pub mod Json
pub mod Lines
pub mod Showing
pub mod Texts
