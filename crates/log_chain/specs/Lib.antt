pub mod Chain
pub mod ChainLaws
pub mod FieldLaws
pub mod Fields
pub mod History
pub mod Pieces
pub mod Refusals
pub mod within
