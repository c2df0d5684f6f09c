-- What is proved of a message that is heard.
pub mod Eight
pub mod Once
pub mod Sources
