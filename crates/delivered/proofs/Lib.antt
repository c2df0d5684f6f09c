-- What is proved of the definitions, and laws that proofs cite.
pub mod Frames
pub mod Refusals
pub mod Rings
