pub mod Blames
pub mod Endings
mod Exposing
mod Extracts
mod Filing
mod Gathered
mod Plays
mod Rows
mod Saying
mod Steps
