-- What is proved, by the folders of specs/.
pub mod CycleEdges
pub mod Moves
pub mod Slots
pub mod Speaks
pub mod Went
pub mod Writable
