-- What is put into the numbers of the outgoing side is what a rule makes of it.
pub mod Kept
