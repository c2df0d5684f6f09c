-- Looking for an overlap from one listed number to the next.
pub mod Skipping
