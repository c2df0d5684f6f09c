-- The definitions of this program, and what is proved of them.
pub mod Capture
-- Theorems.
pub mod Scanned
pub mod Output
