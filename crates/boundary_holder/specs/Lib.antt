-- A participant that holds, on its core, and that its asking is that of its station.
pub mod Held
