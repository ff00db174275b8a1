pub mod CodedPrograms
pub mod CodingLaws
pub mod Codings
pub mod StateLaws
