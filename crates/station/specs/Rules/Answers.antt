-- Paper 01, "Numbers the station answers with" and "The token view and the watch": the words of each answer that is an enum, as numbers in
-- the paper's order.
use Rattle.std.specs.Prelude.{ℕ}
use Rattle.station.specs.Types.{Phase, Off, Listening, Startup, Joining, Participating, Data, Kept, Written, Dropped, Repeat, Token}
use Rattle.station.specs.declared.Token.TheVariants.{None, PassedOn, OursNow, RivalPassedOver, RivalWon}

-- "kept as a block, written, dropped"; and "repeat", "a fourth beside kept, written and dropped" (paper 02, E4)
abbrev pub data_number : Data → ℕ
data_number Kept = 0
data_number Written = 1
data_number Dropped = 2
data_number Repeat = 3

-- "none, passed on, ours now, rival passed over, rival won"
abbrev pub token_number : Token → ℕ
token_number (None outcome) = 0
token_number (PassedOn outcome) = 1
token_number (OursNow outcome) = 2
token_number (RivalPassedOver outcome) = 3
token_number (RivalWon outcome) = 4

-- what became of the data, inside what became of the token
abbrev pub data_of : Token → Data
data_of (None outcome) = outcome
data_of (PassedOn outcome) = outcome
data_of (OursNow outcome) = outcome
data_of (RivalPassedOver outcome) = outcome
data_of (RivalWon outcome) = outcome

abbrev pub phase_number : Phase → ℕ
phase_number Off = 0
phase_number Listening = 1
phase_number Startup = 2
phase_number Joining = 3
phase_number Participating = 4
