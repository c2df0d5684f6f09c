-- The definitions of this crate, and what its proofs cite of them.
pub mod Writing
pub mod Parts
pub mod Lengths
pub mod Steps
