-- What is proved of the definitions, and laws that proofs cite.
pub mod Asks
pub mod DemandThree
pub mod Hears
pub mod Just
pub mod Lists
pub mod Member
pub mod Settles
pub mod Steps
pub mod StrayEvents
pub mod Strays
pub mod Ticks
