-- The ring of full stations.
pub mod Events
pub mod Counts
-- Theorems.
pub mod Member
pub mod Strays
pub mod Demand
pub mod DemandThree
