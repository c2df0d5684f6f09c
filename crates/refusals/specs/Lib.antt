-- When each refusal applies, and the first that does.
pub mod Applies
-- It is the one that is answered.
pub mod Cases
pub mod ReadFirst
