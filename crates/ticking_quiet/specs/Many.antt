-- Ticks one after the other.
use Rattle.laws.specs.Usual.{ℕ, suc}
use Rattle.std.specs.Prelude.{zero}
use Rattle.station.specs.Rules.Ticking.{Ticking, tick_answer, tick_of}
use Rattle.station.specs.declared.Station.{Station}

-- the state after so many ticks
abbrev pub after_ticks : ℕ → Station → Station
after_ticks zero station = station
after_ticks (suc count) station = after_ticks count (tick_of station).station

-- so many ticks in one call: the state after them, with the answer of the last. No tick changes nothing, and is answered as a tick would be.
abbrev pub ticks_of : ℕ → Station → Ticking
ticks_of zero station = record { station = station; answer = tick_answer station.phase }
ticks_of (suc count) station = tick_of (after_ticks count station)
