-- What is written reads back to the same fields and the same data. Assumes nothing.
use Rattle.std.specs.Prelude.{◌≡◌, ◌≤◌}
use Rattle.laws.specs.Usual.{true}
use borrow.Author.Tests.{le-leb, eq-eqb}
use Rattle.area.specs.Areas.{in_range}
use Rattle.block.specs.Blocks.{blocks_of, length_of}
use Rattle.frame.specs.Codes.{is_token, is_cyclic, carries_areas}
use Rattle.frame.specs.declared.Fields.{Fields}
use Rattle.frame_reading.specs.Reading.{is_station}

-- the fields that a station can send: numbers of stations, areas in range, and a block that the areas have
pub record Sendable (fields : Fields) : Type 0 where
  pub source : is_station fields.source ≡ true
  pub destination : is_token fields.code ≡ true → is_station fields.destination ≡ true
  pub areas : carries_areas fields.code ≡ true → in_range fields.areas ≡ true
  pub total : is_cyclic fields.code ≡ true → fields.blocks ≡ blocks_of fields.areas
  pub first : is_cyclic fields.code ≡ true → 1 ≤ fields.block
  pub last : is_cyclic fields.code ≡ true → fields.block ≤ fields.blocks
  pub size : is_cyclic fields.code ≡ true → fields.size ≡ length_of fields.areas fields.block
