-- What is proved of the definitions, and laws that proofs cite.
pub mod Append
pub mod Count
pub mod Counted
pub mod Examples
pub mod First
pub mod Moves
pub mod Next
pub mod Passes
pub mod PassesLeft
pub mod Runs
pub mod Same
pub mod Settling
pub mod Silences
pub mod Simulation
pub mod Turns
