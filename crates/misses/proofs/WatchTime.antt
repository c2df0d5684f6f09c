-- How long the watch runs, by the rules and by the history. Assumes nothing.
use Rattle.std.specs.Prelude.{◌≡◌, ◌||◌}
use Rattle.laws.specs.Usual.{refl, Bool, true, false, cond, not, ℕ, arith, eqb}
use Rattle.std.proofs.Common.{eqb-true}
use Rattle.std.proofs.lemmas.Bool.{eqb-false}
use Rattle.members.specs.Members.{entry_of, is_listed}
use Rattle.station.specs.Rules.State.{holds}
use Rattle.station.specs.Rules.Ticking.{watch_time}
use Rattle.station.specs.Rules.Waits.{counts_as}
use Rattle.station.specs.declared.Station.{Station}
use Rattle.misses.specs.WatchHistory.{milliseconds}

-- the watch runs for as long as the history says
pub same_time : (station : Station) → (watch_time station).0 ≡ milliseconds station
same_time station = by (holds station) (is_listed station.members station.view) (eqb listed 0) refl
  where
    listed : ℕ
    listed = (entry_of station.members station.view).watch.0

    by : (held is_listed_lem none : Bool) → eqb listed 0 ≡ none
        → (cond (held || not is_listed_lem) station.own.watch (counts_as (entry_of station.members station.view).watch)).0
        ≡ cond held station.own.watch.0 (cond is_listed_lem (cond none 1 listed) station.own.watch.0)
    by true is_listed_lem none e = refl
    by false true true e = omega (arith, eqb-true listed 0 e)
    by false true false e = omega (arith, eqb-false listed 0 e)
    by false false none e = refl
