pub mod Calls
pub mod Keeping
pub mod Opening
pub mod Refusals
pub mod Runs
pub mod Witnesses
pub mod within
