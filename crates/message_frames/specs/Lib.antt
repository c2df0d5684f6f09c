-- The definitions of this crate.
pub mod Places
pub mod Frames
pub mod Confirmations
