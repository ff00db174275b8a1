pub mod Convicting
pub mod Handing
pub mod Judging
pub mod JudgingJson
