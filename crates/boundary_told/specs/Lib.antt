-- What an answer tells of the frame that was read or written.
pub mod Told
pub mod Routes
