-- The words by which private code keeps its promises. A reader of the public contracts needs none of them.
pub mod Bare
pub mod Items
pub mod Lent
pub mod Pairing
pub mod Parts
pub mod Shared
