-- Definitions.
pub mod Heard
-- Theorems.
pub mod Laws
