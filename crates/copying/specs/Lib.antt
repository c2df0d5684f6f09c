-- The definition of this crate, and what is proved of it.
pub mod Pasted
pub mod Laws
pub mod Places
