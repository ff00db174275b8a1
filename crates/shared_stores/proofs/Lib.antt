pub mod Beginning
pub mod Copied
pub mod Filtering
pub mod Replaying
pub mod Sharing
