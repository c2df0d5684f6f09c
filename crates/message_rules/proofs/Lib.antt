-- What is proved of the definitions, and laws that proofs cite.
pub mod Carried
pub mod Cases
pub mod Letters
pub mod Outcomes
pub mod Receiving
pub mod Ring
pub mod Sending
