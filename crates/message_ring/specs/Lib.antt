-- The ring of stations with messages, and demand 3.
pub mod Events
pub mod Demand
