-- What is proved of the definitions, and laws that proofs cite.
pub mod Cases
pub mod CoverThird
pub mod EntryMoves
pub mod ListMoves
pub mod MissesTold
pub mod WatchTime
pub mod WatchTold
