-- The rules of messages, and what is proved of them.
pub mod Rules
pub mod Ring
pub mod Carried
pub mod Cases
pub mod Outcomes
pub mod Receiving
pub mod Sending
