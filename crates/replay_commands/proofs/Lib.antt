-- What is proved of the definitions, and laws that proofs cite.
pub mod Cases
pub mod Kept
pub mod Whole
