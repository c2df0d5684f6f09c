-- Definitions.
pub mod Parts
