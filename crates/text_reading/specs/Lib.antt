-- The definitions of this crate.
pub mod Values
pub mod Marks
pub mod Parts
