-- The refusals of a station with messages.
pub mod Applies
pub mod FirstApplies
pub mod Left
