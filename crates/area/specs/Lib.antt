-- The definitions of this crate, and what is proved of them.
pub mod Areas
pub mod Overlap
-- Theorems.
pub mod Words
pub mod Within
