-- The answer in numbers.
pub mod Numbers
