-- What ties the words of this crate to those of the library.
pub mod Searches
