-- What is proved, by the folders of specs/.
pub mod Gathers
pub mod GathersHeard
pub mod KeptRepeated
pub mod MemorySame
pub mod OursKept
pub mod Places
pub mod RepeatSaid
pub mod TurnJoined
pub mod TurnWhole
pub mod TurnWritten
