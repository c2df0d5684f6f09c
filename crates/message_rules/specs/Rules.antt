-- The rules of messages, one file a section.
pub mod State
pub mod Posting
pub mod Cycle
pub mod Again
pub mod Confirming
pub mod Hearing
pub mod Calls
