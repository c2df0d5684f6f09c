-- The definitions of this crate.
pub mod Lists
-- Theorems.
pub mod Laws
