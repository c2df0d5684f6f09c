-- Every frame that is asked for reads back to the fields that are meant. Assumes nothing.
use Rattle.std.specs.Prelude.{◌≡◌, ◌<◌}
use Rattle.laws.specs.Usual.{true}
use Rattle.area.specs.Areas.{in_range}
use Rattle.block.specs.Blocks.{blocks_of}
use Rattle.frame_reading.specs.Reading.{is_station}
use Rattle.station.specs.Rules.Asking.{next_station}
use Rattle.station.specs.Types.{Station}

-- what is asked of a station that sends: numbers of stations, areas in range, and a place inside its turn
pub record CanSend (station : Station) : Type 0 where
  pub number : is_station station.own.number ≡ true
  pub areas : in_range station.own.areas ≡ true
  pub next : is_station (next_station station) ≡ true
  pub place : station.block < blocks_of station.own.areas
