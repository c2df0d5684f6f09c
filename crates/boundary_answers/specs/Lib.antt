-- The answers as numbers, and that nothing is lost by it.
pub mod Numbers
pub mod Kept
