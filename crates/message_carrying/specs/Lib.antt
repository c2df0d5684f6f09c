-- What the proofs of this crate cite.
pub mod Laws
pub mod Steps
