-- Misses and striking, and the watch, told from the calls since off.
pub mod MissHistory
pub mod WatchHistory
-- Theorems.
pub mod WatchTold
pub mod Cases
pub mod CoverThird
pub mod EntryMoves
pub mod MissesTold
