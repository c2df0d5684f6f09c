-- What is proved, by the folders of specs/.
pub mod Buffers
pub mod Reached
pub mod RingPart
pub mod Turns
