-- What is proved, by the folders of specs/.
pub mod AskCases
pub mod HearCases
pub mod SwitchCases
pub mod TickCases
