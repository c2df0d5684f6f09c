-- The definitions of this crate.
pub mod Hex
pub mod Lines
-- What is proved of them.
pub mod Written
pub mod HexLaws
