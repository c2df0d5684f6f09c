-- The rules of the station, in the paper's order.
pub mod Answers
pub mod State
pub mod Waits
pub mod Starting
pub mod Token
pub mod Data
pub mod Ticking
pub mod Hearing
pub mod Asking
pub mod Showing
pub mod Calls
