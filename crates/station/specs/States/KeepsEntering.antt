-- What a frame that is not refused keeps, but for a participant's data. Assumes nothing.
use Rattle.std.specs.Prelude.{◌≡◌, ◌≤◌}
use Rattle.laws.specs.Usual.{true}
use Rattle.area.specs.Areas.{in_range}
use Rattle.block.specs.Blocks.{blocks_of}
use Rattle.frame.specs.Codes.{is_token, is_cyclic, carries_areas}
use Rattle.frame_reading.specs.Reading.{is_station}
use Rattle.station.specs.Types.{Fields}

-- a frame that came through 1 to 5, 7, 14, 15 and 8
pub record Fit (frame : Fields) : Type 0 where
  pub source : is_station frame.source ≡ true
  pub destination : is_token frame.code ≡ true → is_station frame.destination ≡ true
  pub areas : carries_areas frame.code ≡ true → in_range frame.areas ≡ true
  pub total : is_cyclic frame.code ≡ true → frame.blocks ≡ blocks_of frame.areas
  pub from : is_cyclic frame.code ≡ true → 1 ≤ frame.block
  pub last : is_cyclic frame.code ≡ true → frame.block ≤ frame.blocks
  pub watch : frame.watch.0 ≤ 255
