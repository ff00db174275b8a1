-- The words by which private code keeps its promises. A reader of the public contracts needs none of them.
pub mod Stages
pub mod Pieces
