-- The definitions of this crate, and what is proved of them.
pub mod Replay
-- Theorems.
pub mod Scanned
pub mod Output
