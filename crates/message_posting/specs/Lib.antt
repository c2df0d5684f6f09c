-- Handing in a message, by what the code looks at.
pub mod Sendable
