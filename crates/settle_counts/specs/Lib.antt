-- The definitions of this crate, and what is proved of them.
pub mod Counts
-- Laws of the loops.
pub mod Passing
-- Theorems.
pub mod Carried
pub mod Loops
