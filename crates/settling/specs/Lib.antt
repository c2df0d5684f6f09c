-- The ring of token views: what a pass and a silence do to the views of all stations, and how soon the views agree.
-- The definitions.
pub mod Steps
pub mod Ring
pub mod Counting
-- The proofs, in the order in which they build on each other.
-- The theorem, and how it is carried over to a ring of full stations.
pub mod Settling
pub mod Count
pub mod First
pub mod Moves
pub mod Next
pub mod PassesLeft
pub mod Runs
pub mod Same
pub mod Silences
