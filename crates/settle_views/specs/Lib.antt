-- The definitions of this crate, and what is proved of them.
pub mod Views
-- Theorems.
pub mod Loops
pub mod Listed
pub mod Agreement
pub mod Proper
