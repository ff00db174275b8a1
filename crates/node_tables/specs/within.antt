-- The words by which private code keeps its promises. A reader of the public contracts needs none of them.
pub mod Bringing
pub mod Coming
pub mod Marking
pub mod Named
pub mod Placing
pub mod Promising
pub mod Sendings
pub mod Spanning
