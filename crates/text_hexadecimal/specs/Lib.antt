-- The definitions of this crate, and what is proved of them.
pub mod Hexadecimal
pub mod Octets
-- Theorems.
pub mod Digits
pub mod OctetLaws
