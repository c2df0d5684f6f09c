-- The definitions of this crate, and what is proved of them.
pub mod Run
pub mod Running
-- Theorems.
pub mod Counted
pub mod Examples
pub mod Whole
