-- What is proved of the definitions, and laws that proofs cite.
pub mod Cut
pub mod Fed
pub mod Front
pub mod Lines
pub mod Scan
