-- What is proved of the definitions, and laws that proofs cite.
pub mod Alone
pub mod Cases
pub mod ManyLaws
pub mod QuietExact
pub mod Step
