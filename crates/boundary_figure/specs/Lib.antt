-- What the panel shows, as numbers.
pub mod Figures
