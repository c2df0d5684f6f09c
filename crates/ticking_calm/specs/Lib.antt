-- The definitions of this crate.
pub mod Calm
-- Theorems.
pub mod Sums
pub mod CalmTicks
