-- A participant's tick that does not end its watch.
pub mod Watch
