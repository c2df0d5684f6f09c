-- The definitions of this crate, and what is proved of them.
pub mod Decimal
pub mod Lines
-- Theorems.
pub mod Digits
pub mod LineLaws
