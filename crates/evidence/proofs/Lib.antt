mod ComingBack
mod Importing
mod Sent
pub mod SetTexts
