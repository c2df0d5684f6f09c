-- What a command does.
pub mod Replaying
