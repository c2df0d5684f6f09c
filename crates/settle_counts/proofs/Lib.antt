-- What is proved of the definitions, and laws that proofs cite.
pub mod Carried
pub mod Kept
pub mod Loops
pub mod Passing
pub mod Sums
pub mod Total
