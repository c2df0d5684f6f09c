-- What is proved of the definitions, and laws that proofs cite.
pub mod Counted
pub mod Examples
pub mod Holders
pub mod Whole
