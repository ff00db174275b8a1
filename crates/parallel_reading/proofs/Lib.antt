mod Apart
mod Front
mod Gathering
mod ImportedSets
pub mod Items
mod InBlocks
mod Placed
mod Resting
mod Standing
