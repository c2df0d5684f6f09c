-- That the ring part does not move, and what carries over by it.
pub mod OnRing
pub mod Buffers
pub mod Reached
pub mod Turns
