-- Frames without data.
pub mod Bare
