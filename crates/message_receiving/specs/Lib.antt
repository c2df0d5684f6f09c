-- Definitions.
pub mod Receiving
-- Theorems.
pub mod Laws
