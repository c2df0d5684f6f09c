-- A participant's calls on its core, and that they are the calls of its station.
pub mod Quick
