-- What a frame of the base does to the message part, by what the code looks at.
pub mod Heard
