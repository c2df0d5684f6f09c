-- What is proved of the definitions, and laws that proofs cite.
pub mod MarkLaws
pub mod PartLaws
pub mod Told
pub mod ValueLaws
