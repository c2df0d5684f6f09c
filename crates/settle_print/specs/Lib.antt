-- The definitions of this crate, and what is proved of them.
pub mod Parts
-- Theorems.
pub mod Lines
pub mod Filling
pub mod Joined
