mod Digested
mod Gathered
mod Known
pub mod Listed
mod Owed
