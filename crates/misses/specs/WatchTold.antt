-- A participant's watch ends in the tick that the history says. Assumes nothing.
use Rattle.std.specs.Prelude.{◌≡◌}
use Rattle.laws.specs.Usual.{Bool, true, List}
use Rattle.station.specs.Panel.History.{Step, participates}
use Rattle.station.specs.declared.Station.{Station}
use Rattle.misses.specs.WatchHistory.{milliseconds, ends_after, run_after, watch_run}

-- what a call leaves of a participant's watch
pub record Runs (station : Station) (restarted ticks : Bool) (left : Station) : Type 0 where
  pub run : participates left ≡ true
      → left.elapsed.0 ≡ run_after restarted ticks (ends_after (milliseconds station) station.elapsed.0) station.elapsed.0

-- what holds of a participant after these steps
abbrev pub Told : List Step → Station → Type 0
Told steps station = participates station ≡ true → station.elapsed.0 ≡ watch_run steps
