-- Definitions.
pub mod Tests
-- Theorems.
pub mod Laws
