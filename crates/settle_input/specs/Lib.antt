-- The definitions of this crate, and what is proved of them.
pub mod Input
-- Theorems.
pub mod Form
pub mod Lines
pub mod Short
pub mod Prefix
pub mod Filled
pub mod Whole
pub mod Numbers
