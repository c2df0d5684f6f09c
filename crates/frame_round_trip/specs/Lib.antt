-- Definitions that the theorems speak of.
pub mod Sent
pub mod Places
-- What a frame that is read has passed.
-- The two round trips.
pub mod WriteBack
pub mod Accepted
pub mod ReadBack
