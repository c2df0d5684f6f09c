-- What is proved, by the folders of specs/.
pub mod Asked
pub mod FrameAccepted
