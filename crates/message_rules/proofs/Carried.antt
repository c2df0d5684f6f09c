-- What is proved, by the folders of specs/.
pub mod CarriedHeard
pub mod CarriedRead
pub mod Wrote
