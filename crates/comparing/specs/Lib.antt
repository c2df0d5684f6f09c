-- The definition of this crate, and what is proved of it.
pub mod Same
pub mod Laws
