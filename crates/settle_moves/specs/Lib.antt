-- The definitions of this crate, and what is proved of them.
pub mod Moves
-- Theorems.
pub mod Loops
pub mod Found
pub mod Each
pub mod Silent
pub mod Moved
