-- What is proved, by the folders of specs/.
pub mod Eight
pub mod Once
pub mod Owed
pub mod Sources
