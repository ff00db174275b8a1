pub mod CommandLine
pub mod PlainLines
