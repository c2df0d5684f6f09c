-- The definitions of this crate.
pub mod Scanning
pub mod Made
