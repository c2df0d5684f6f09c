-- The header in the three parts that it is written in, and what is proved of them.
pub mod Parts
pub mod Steps
