-- The outcomes of a start and of a stop: whatever is proved of these calls goes by these. Assumes nothing.
use Rattle.std.specs.Prelude.{Ok, Err, ◌≡◌}
use Rattle.laws.specs.Usual.{true, ltb}
use Rattle.area.specs.Areas.{in_range}
use Rattle.frame_reading.specs.Reading.{is_station}
use Rattle.station.specs.Rules.Starting.{Switching}
use Rattle.station.specs.Types.{Refusal, Settings, Off, Station}

-- a call that is refused and alters nothing, or is done, for a reason, and leaves another state
pub data SwitchCases (before left : Station) (Reason : Type 0) : Switching → Type 0 where
  refuses : (refusal : Refusal) → SwitchCases before left Reason (record { station = before; answer = Err refusal })
  does : Reason → SwitchCases before left Reason (record { station = left; answer = Ok tt })

-- a station that is off, started with settings that can be
pub record Starts (station : Station) (own : Settings) : Type 0 where
  pub off : station.phase ≡ Off
  pub number : is_station own.number ≡ true
  pub watch : ltb 0 own.watch.0 ≡ true
  pub areas : in_range own.areas ≡ true
