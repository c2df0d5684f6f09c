-- The definitions: a station as C keeps it, and what the contracts of the exported calls say of it.
pub mod Boxes
-- What the theorems in proofs/ say: what a refused call leaves, and boxes that make a ring.
pub mod Refusals
pub mod Rings
