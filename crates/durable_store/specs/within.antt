-- The words by which private code keeps its promises. A reader of the public contracts needs none of them.
pub mod Answered
pub mod Batches
pub mod Filling
pub mod Findings
pub mod Journals
pub mod Takings
