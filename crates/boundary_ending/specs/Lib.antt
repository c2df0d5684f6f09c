-- A tick that ends a wait before we participate.
pub mod Ending
