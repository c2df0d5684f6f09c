-- An asking that is refused, on the core alone.
pub mod Due
