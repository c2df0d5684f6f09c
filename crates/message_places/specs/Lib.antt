-- Definitions.
pub mod Outgoing
pub mod Owed
pub mod Places
