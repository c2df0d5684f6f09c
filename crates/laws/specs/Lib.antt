-- Laws that several crates cite, and the names of the logic that nearly every file uses.
pub mod Lists
pub mod Tests
pub mod Usual
