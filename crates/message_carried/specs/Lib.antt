-- What is left when the oldest confirmation owed is put into a frame.
pub mod Carried
