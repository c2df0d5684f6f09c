-- The state as numbers, and that nothing is lost by it.
pub mod Crossing
