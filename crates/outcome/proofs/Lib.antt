pub mod ByteLists
pub mod Cuts
pub mod Steps
