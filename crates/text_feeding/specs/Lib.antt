-- The definitions of this crate.
pub mod Feeding
pub mod Counts
pub mod Cut
pub mod Lines
