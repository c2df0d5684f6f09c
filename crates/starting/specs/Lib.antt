-- What a start does, by its answer.
pub mod Answers
