-- The words by which private code keeps its promises. A reader of the public contracts needs none of them.
pub mod Inserted
pub mod Joins
pub mod Noted
pub mod Resolved
