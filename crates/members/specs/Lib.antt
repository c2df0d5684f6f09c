-- The definitions of this crate.
pub mod Members
pub mod Listing
-- Theorems.
pub mod Loops
