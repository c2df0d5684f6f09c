-- What is proved, by the folders of specs/.
pub mod LetterAccepted
pub mod LetterSent
