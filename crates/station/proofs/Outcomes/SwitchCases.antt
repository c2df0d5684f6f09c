-- The outcomes of a start and of a stop: whatever is proved of these calls goes by these. Assumes nothing.
use Rattle.std.specs.Prelude.{Ok, ◌≡◌, ◌&&◌}
use Rattle.laws.specs.Usual.{refl, Bool, true, false, not, ltb}
use Rattle.area.specs.Areas.{in_range}
use Rattle.laws.specs.Tests.{first, second}
use Rattle.frame_reading.specs.Reading.{is_station}
use Rattle.station.specs.Rules.Starting.{Switching, need, start_of, stop_of}
use Rattle.station.specs.Rules.State.{is_off, fresh, stopped}
use Rattle.station.specs.Types.{Settings, Phase, Off, Listening, Startup, Joining, Participating, Station}
use Rattle.station.specs.Outcomes.SwitchCases.{SwitchCases, refuses, does, Starts}
use Rattle.frame.specs.declared.Refusal.TheVariants as refusals

-- what holds of both states holds of what is left
pub switched_to : (P : Station → Type 0) {before left : Station} {Reason : Type 0} {result : Switching} → SwitchCases before left Reason result
    → P before → (Reason → P left) → P result.station
switched_to P (refuses refusal) p q = p
switched_to P (does reason) p q = q reason

pub start_cases : (station : Station) (own : Settings) → SwitchCases station (fresh Listening own) (Starts station own) (start_of station own)
start_cases station own = by station.phase refl (is_station own.number && ltb 0 own.watch.0) refl (in_range own.areas) refl
  where
    by : (phase : Phase) → station.phase ≡ phase → (address : Bool) → (is_station own.number && ltb 0 own.watch.0) ≡ address
        → (range : Bool) → in_range own.areas ≡ range
        → SwitchCases station (fresh Listening own) (Starts station own)
        (need (is_off phase) refusals.NotDue station
        (need address refusals.Address station
        (need range refusals.Area station (record { station = fresh Listening own; answer = Ok tt }))))
    by Off e true a true r = does (record { off = e; number = first (is_station own.number) _ a; watch = second (is_station own.number) _ a; areas = r })
    by Off e true a false r = refuses refusals.Area
    by Off e false a range r = refuses refusals.Address
    by Listening e address a range r = refuses refusals.NotDue
    by Startup e address a range r = refuses refusals.NotDue
    by Joining e address a range r = refuses refusals.NotDue
    by Participating e address a range r = refuses refusals.NotDue

pub stop_cases : (station : Station) → SwitchCases station (stopped station) (is_off station.phase ≡ false) (stop_of station)
stop_cases station = by (is_off station.phase) refl
  where
    by : (off : Bool) → is_off station.phase ≡ off → SwitchCases station (stopped station) (is_off station.phase ≡ false)
        (need (not off) refusals.NotDue station (record { station = stopped station; answer = Ok tt }))
    by true e = refuses refusals.NotDue
    by false e = does e
