-- Ticks that only count, and ticks jumped over, on a core.
pub mod Calm
pub mod Jump
