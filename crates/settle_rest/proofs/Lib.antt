-- What is proved of the definitions, and laws that proofs cite.
pub mod Begun
pub mod Shown
pub mod Whole
