-- When a message goes, by the panel and the outgoing side.
pub mod Going
