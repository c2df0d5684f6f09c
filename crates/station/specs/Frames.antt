-- Frames asked for: what they are, and that others accept them.
pub mod Asked
pub mod FrameAccepted
