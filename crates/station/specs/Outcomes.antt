-- What each call can do: one case for each outcome, with what led there and what is left, proved once of the rule. Whatever is proved of a
-- call goes by its cases.
pub mod AskCases
pub mod HearCases
pub mod SwitchCases
pub mod TickCases
