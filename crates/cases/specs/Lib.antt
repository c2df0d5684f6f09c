-- The paper's marked cases, one table with one check.
pub mod Marked
