-- Definitions.
pub mod Owing
-- Theorems.
pub mod Cases
pub mod Laws
pub mod Steps
