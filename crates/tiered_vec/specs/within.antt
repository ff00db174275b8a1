pub mod Tiering
