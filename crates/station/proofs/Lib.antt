-- What is proved of the definitions, and laws that proofs cite.
pub mod Acts
pub mod Copies
pub mod Frames
pub mod Memory
pub mod Outcomes
pub mod Panel
pub mod RefusedLeft
pub mod States
pub mod Watches
