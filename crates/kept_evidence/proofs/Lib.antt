pub mod Added
pub mod Answered
mod Ascending
pub mod Bridge
pub mod Convicted
pub mod Exposures
mod FoundEach
pub mod Grouped
pub mod Indicated
pub mod Listed
pub mod Members
pub mod Merged
pub mod Orders
pub mod Places
pub mod Taken
mod ToldStatements
