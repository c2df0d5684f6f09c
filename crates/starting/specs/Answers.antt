-- A start is answered by the phase and the settings alone, and its answer says what becomes of the state. Assumes nothing.
use Rattle.std.specs.Prelude.{Ok, Err, ◌≡◌, ◌&&◌}
use Rattle.laws.specs.Usual.{refl, Bool, true, false, ltb}
use Rattle.area.specs.Areas.{in_range}
use Rattle.frame_reading.specs.Reading.{is_station}
use Rattle.station.specs.Rules.Starting.{Switching, need, start_of}
use Rattle.station.specs.Rules.State.{is_off, fresh}
use Rattle.station.specs.declared.Phase.{Phase}
use Rattle.station.specs.declared.Phase.TheVariants.{Listening}
use Rattle.station.specs.declared.Settings.{Settings}
use Rattle.station.specs.declared.Station.{Station}
use Rattle.station.specs.Types.{Switched}
use Rattle.frame.specs.declared.Refusal.TheVariants as refusals

abbrev pub start_answer : Phase → Settings → Switched
start_answer phase own = (start_of (fresh phase own) own).answer

-- a call that leaves one state where it is done, and another where it is refused
abbrev pub switched_by : Switched → Station → Station → Switching
switched_by (Ok tt) after before = record { station = after; answer = Ok tt }
switched_by (Err refusal) after before = record { station = before; answer = Err refusal }

-- the three tests of a start
abbrev tested : Settings → Bool → Bool → Bool → Station → Switching
tested own off address range before =
    need off refusals.NotDue before
    (need address refusals.Address before
    (need range refusals.Area before (record { station = fresh Listening own; answer = Ok tt })))

pub started : (station : Station) (own : Settings) → start_of station own ≡ switched_by (start_answer station.phase own) (fresh Listening own) station
started station own = by (is_off station.phase) (is_station own.number && ltb 0 own.watch.0) (in_range own.areas)
  where
    by : (off address range : Bool)
        → tested own off address range station ≡ switched_by (tested own off address range (fresh station.phase own)).answer (fresh Listening own) station
    by true true true = refl
    by true true false = refl
    by true false range = refl
    by false address range = refl
