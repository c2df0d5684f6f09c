-- What is proved of a message that is sent.
pub mod Speaks
pub mod Writable
