-- The panel: what the history of the calls says, and that the panel shows it (`panel_is_gap`).
pub mod History
pub mod Counts
pub mod Moves
pub mod PanelIsGap
