-- A message told by the reading of its header.
pub mod Told
