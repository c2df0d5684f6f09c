-- What is proved of the definitions, and laws that proofs cite.
pub mod Cases
pub mod FirstApplies
pub mod FirstFound
pub mod ReadFirst
