pub mod Groups
pub mod Margins
