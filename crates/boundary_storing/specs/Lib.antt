-- An entry stored in the arrays.
pub mod Storing
