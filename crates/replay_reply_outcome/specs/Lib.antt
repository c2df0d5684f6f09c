-- The definitions of this crate.
pub mod Outcome
-- What is proved of them.
pub mod Room
