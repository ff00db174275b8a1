pub mod Contents
pub mod Exports
pub mod Importing
pub mod Refusals
pub mod within
