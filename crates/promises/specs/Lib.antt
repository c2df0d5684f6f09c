-- What is promised, in one file.
pub mod Promises
