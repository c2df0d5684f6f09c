-- What several proofs of this crate cite.
mod Lent
