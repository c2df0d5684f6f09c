-- The search for the first listed number.
pub mod Search
-- Theorems: next and the smallest by it.
pub mod Found
