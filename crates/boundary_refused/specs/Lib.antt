-- Frames that are refused, on the core alone: by the header, the number, the areas and the block, or as a stranger's.
pub mod Unheard
pub mod Taken
pub mod Strange
pub mod Leaves
