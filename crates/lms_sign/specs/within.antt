pub mod TreeNodes
pub mod OpenChains
pub mod Eights
