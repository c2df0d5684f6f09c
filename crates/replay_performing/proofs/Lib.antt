-- Laws that the proofs of this crate cite.
pub mod Buffers
pub mod Cut
pub mod Lines
