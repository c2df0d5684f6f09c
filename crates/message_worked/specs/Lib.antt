-- Worked rings of stations with messages: a pair brought up by calls, and what becomes of its messages.
pub mod Bringing
pub mod Pair
pub mod Demand
pub mod Waits
pub mod Failed
pub mod Resent
