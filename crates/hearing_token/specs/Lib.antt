-- What is answered of the token by the numbers that it depends on.
pub mod Parts
