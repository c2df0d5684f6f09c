-- A law of what an asking leaves.
pub mod Carried
