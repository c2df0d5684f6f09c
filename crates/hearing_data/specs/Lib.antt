-- What is known of a frame that was read.
pub mod Body
