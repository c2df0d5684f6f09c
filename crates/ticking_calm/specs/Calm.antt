-- The ticks that only count: all but those in which a wait or the watch ends.
use Rattle.laws.specs.Usual.{false, cond, ℕ, suc, min, eqb}
use Rattle.std.specs.Prelude.{zero}
use Rattle.panel.specs.Panel.{ticked}
use Rattle.station.specs.Rules.State.{counted}
use Rattle.station.specs.Rules.Ticking.{later, watch_time}
use Rattle.station.specs.Rules.Waits.{detection_wait, acceptance_time, number_wait, listening_time, longest_watch}
use Rattle.panel.specs.declared.Panel.{Panel}
use Rattle.station.specs.declared.Phase.{Phase}
use Rattle.station.specs.declared.Phase.TheVariants.{Off, Listening, Startup, Joining, Participating}
use Rattle.station.specs.declared.Station.{Station}
use Rattle.units.specs.declared.Milliseconds.{Milliseconds}
use Rattle.units.specs.declared.Ticks.{Ticks}
use Rattle.ticking_quiet.specs.Quiet.{left_in}
use Rattle.ticking_calm.specs.declared.Counts.{Counts}

-- how many of the next `count` ticks only count: of an off station's and in listening all do. (Whether our request was sent does not matter to
-- that: our settings may change in the tick in which it would fall due.)
abbrev pub calm_in : Phase → ℕ → Milliseconds → ℕ → Ticks → Ticks → ℕ → ℕ
calm_in Off number time rounds elapsed waited count = count
calm_in Listening number time rounds elapsed waited count = count
calm_in Startup number time rounds elapsed waited count = min count (left_in Startup number time false rounds elapsed waited)
calm_in Joining number time rounds elapsed waited count = min count (left_in Joining number time false rounds elapsed waited)
calm_in Participating number time rounds elapsed waited count = min count (left_in Participating number time false rounds elapsed waited)

-- so many ticks more, up to a limit
abbrev pub later_by : ℕ → ℕ → Ticks → Ticks
later_by most zero ticks = ticks
later_by most (suc count) ticks = later most (later_by most count ticks)

abbrev pub ticked_by : ℕ → Panel → Panel
ticked_by zero panel = panel
ticked_by (suc count) panel = ticked (ticked_by count panel)

-- the counts after so many ticks that only count
abbrev pub counts_after : Phase → ℕ → ℕ → ℕ → Counts → Counts
counts_after Off number rounds count counts = counts
counts_after Listening number rounds count counts =
    record { elapsed = later_by (listening_time number) count counts.elapsed; waited = counts.waited; panel = counts.panel }
counts_after Startup number rounds count counts =
    record { elapsed = later_by acceptance_time count counts.elapsed; waited = counts.waited; panel = counts.panel }
counts_after Joining number rounds count counts = record {
  elapsed = later_by detection_wait count counts.elapsed;
  waited = cond (eqb rounds 3) (later_by (number_wait number) count counts.waited) counts.waited;
  panel = counts.panel;
}
counts_after Participating number rounds count counts =
    record { elapsed = later_by longest_watch count counts.elapsed; waited = counts.waited; panel = ticked_by count counts.panel }

-- the counts of a station, and the station with others
abbrev pub counts_of : Station → Counts
counts_of station = record { elapsed = station.elapsed; waited = station.waited; panel = station.panel }

abbrev pub with_counts : Station → Counts → Station
with_counts station counts = counted station station.own counts.elapsed counts.waited counts.panel

abbrev pub calm_of : Station → ℕ → ℕ
calm_of station count = calm_in station.phase station.own.number (watch_time station) station.rounds station.elapsed station.waited count

abbrev pub calm_after : ℕ → Station → Station
calm_after count station = with_counts station (counts_after station.phase station.own.number station.rounds count (counts_of station))
