-- The definitions of this crate.
pub mod Many
pub mod Quiet
-- Theorems.
-- Worked cases.
pub mod Alone
pub mod Cases
