-- What is proved, by the folders of specs/.
pub mod Asked
pub mod Counts
pub mod Heard
pub mod Moves
pub mod PanelIsGap
pub mod Ticked
