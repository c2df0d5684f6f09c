-- The definitions of this crate.
pub mod Gathering
pub mod Line
