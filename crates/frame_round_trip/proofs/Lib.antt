-- What is proved of the definitions, and laws that proofs cite.
pub mod Accepted
pub mod Digits
pub mod ReadBack
pub mod SentBack
pub mod Shown
pub mod WriteBack
