-- Definitions.
pub mod Sources
-- Theorems.
pub mod Laws
