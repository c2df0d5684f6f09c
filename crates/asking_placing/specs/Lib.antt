-- What is known of a place inside our turn.
pub mod Placed
