-- Definitions.
pub mod Places
