-- What the proofs of this crate cite.
mod CopiedUp
mod Marked
