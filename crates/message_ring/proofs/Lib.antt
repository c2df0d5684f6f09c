-- What is proved of the definitions, and laws that proofs cite.
pub mod Asked
pub mod Blocks
pub mod DemandThree
pub mod Settles
