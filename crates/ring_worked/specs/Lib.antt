-- Rings of full stations, brought up by calls: two that meet the premises of demand 3, one of which it is false, and a slow drive; and the panel for
-- single lists of calls.
pub mod Bringing
pub mod Worked
pub mod WorkedSilence
pub mod AnotherTime
pub mod WorkedDrive
pub mod PanelWorked
