-- Laws of what a hearing leaves.
pub mod Carried
