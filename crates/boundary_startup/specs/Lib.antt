-- The end of ring startup.
pub mod Started
