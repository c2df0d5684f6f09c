-- A tick that only counts.
pub mod Calm
