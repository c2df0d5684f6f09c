-- The definitions of this crate, and what is proved of them.
pub mod Output
-- Theorems.
pub mod Room
