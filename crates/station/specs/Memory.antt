-- What hearing a frame does to the common memory.
pub mod Gathers
pub mod RepeatSaid
pub mod TurnWhole
