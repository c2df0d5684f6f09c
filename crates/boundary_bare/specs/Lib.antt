-- Our frames without data.
pub mod Bare
