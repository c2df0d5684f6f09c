-- What is proved of the definitions, and laws that proofs cite.
pub mod Rows
