-- What is proved of the definitions, for the search that the library makes.
pub mod Placed
