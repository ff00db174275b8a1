-- How private code keeps its promises. No public contract speaks of these.
pub mod Blocks
