-- A frame that carries a confirmation, heard.
pub mod CarriedHeard
pub mod Wrote
