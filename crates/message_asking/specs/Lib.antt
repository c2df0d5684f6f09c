-- Definitions.
pub mod Asking
-- Theorems.
pub mod Token
pub mod Meets
