-- The definitions of this crate.
pub mod Jump
-- Theorems.
pub mod Alone
pub mod JumpTicks
