-- Laws for the search by the flags.
pub mod Search
