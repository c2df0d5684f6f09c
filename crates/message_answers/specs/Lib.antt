-- The answers about messages as numbers.
pub mod Numbers
