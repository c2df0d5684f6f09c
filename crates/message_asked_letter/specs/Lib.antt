-- A message that goes, on the core and the outgoing side.
pub mod Letter
