-- The definitions of this crate.
pub mod Whole
pub mod Rest
