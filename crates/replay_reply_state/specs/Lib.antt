-- The definitions of this crate.
pub mod State
-- What is proved of them.
pub mod Room
pub mod Entries
