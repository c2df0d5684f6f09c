-- A tick that ends a participant's watch.
pub mod Silence
