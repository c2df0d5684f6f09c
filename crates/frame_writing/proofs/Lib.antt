-- What proofs cite, here and in crates above.
pub mod Octets
pub mod Joined
