-- The ticks that only count, before we participate.
pub mod Waiting
