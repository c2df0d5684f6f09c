-- Some of the next ticks jumped over: those that only count, or all of a participant that holds and is alone, which go round its watch.
use Rattle.std.specs.Prelude.{◌&&◌, ◌+◌, ◌-◌, ◌%◌}
use Rattle.laws.specs.Usual.{Bool, cond, not, ℕ, eqb, ltb}
use Rattle.members.specs.Members.{is_listed, next_after}
use Rattle.station.specs.Rules.State.{is_participating, holds}
use Rattle.station.specs.Rules.Ticking.{watch_time}
use Rattle.station.specs.Rules.Waits.{watch_ticks}
use Rattle.station.specs.declared.Phase.{Phase}
use Rattle.station.specs.declared.Station.{Station}
use Rattle.ticking_calm.specs.Calm.{calm_in, ticked_by, counts_after, counts_of}
use Rattle.ticking_calm.specs.declared.Counts.{Counts}
use Rattle.units.specs.declared.Milliseconds.{Milliseconds}
use Rattle.ticking_jump.specs.declared.Jumped.{Jumped}

-- a participant that holds, after which nobody comes, and whose own number is not listed
abbrev pub is_alone : Station → Bool
is_alone station =
    (is_participating station.phase && holds station)
    && (eqb (next_after station.own.number station.members station.own.number) station.own.number
    && not (is_listed station.members station.own.number))

-- those that only count
abbrev pub skipped : Phase → ℕ → Milliseconds → ℕ → Counts → ℕ → Jumped
skipped phase number time rounds counts count = record {
  counts = counts_after phase number rounds (calm_in phase number time rounds counts.elapsed counts.waited count) counts;
  ticks = count - calm_in phase number time rounds counts.elapsed counts.waited count;
}

-- so many around the watch
abbrev pub round_after : Milliseconds → Counts → ℕ → Counts
round_after time counts count = record {
  elapsed = record { 0 = (counts.elapsed.0 + count) % watch_ticks time };
  waited = counts.waited;
  panel = ticked_by count counts.panel;
}

-- the watch has not run past its time, which is where calls alone made the state
abbrev pub in_time : Milliseconds → Counts → Bool
in_time time counts = ltb counts.elapsed.0 (watch_ticks time)

-- by the parts of a station, the time that its watch runs for, and whether it is alone
abbrev pub jump_in : Bool → Phase → ℕ → Milliseconds → ℕ → Counts → ℕ → Jumped
jump_in alone phase number time rounds counts count =
    cond (alone && in_time time counts)
    (record { counts = round_after time counts count; ticks = 0 })
    (skipped phase number time rounds counts count)

abbrev pub jump_of : Station → ℕ → Jumped
jump_of station count =
    jump_in (is_alone station) station.phase station.own.number (watch_time station) station.rounds (counts_of station) count
