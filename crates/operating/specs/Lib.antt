pub mod ConvictingFiles
pub mod Dealt
pub mod FileTexts
pub mod GatheredFiles
pub mod Operating
pub mod Plays
pub mod Questions
pub mod Splitting
