-- What is proved of the definitions of `panel` for the text that is written.
pub mod Six
