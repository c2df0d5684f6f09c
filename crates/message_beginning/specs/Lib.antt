-- The message part as it begins.
pub mod Begun
