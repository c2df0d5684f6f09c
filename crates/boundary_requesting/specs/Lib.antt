-- Our request sent, on the core alone.
pub mod Requesting
