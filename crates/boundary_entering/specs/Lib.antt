-- What a frame does to a core and its list that is not refused, and that no participant takes as a cyclic one.
pub mod Effects
pub mod Entering
