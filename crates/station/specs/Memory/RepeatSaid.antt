-- A block heard twice (paper 02, E4): a cyclic frame's data outcome is "repeat" exactly where the rule says so. Assumes nothing.
use Rattle.std.specs.Prelude.{Ok, ◌≡◌}
use Rattle.laws.specs.Usual.{Bool, true, false, List, ℕ, length, take, drop}
use Rattle.block.specs.Blocks.{start_of}
use Rattle.frame_reading.specs.Reading.{read_header_of}
use Rattle.members.specs.Members.{entry_of}
use Rattle.station.specs.Rules.Answers.{data_of}
use Rattle.station.specs.Rules.Data.{same_areas}
use Rattle.station.specs.Rules.State.{is_participating}
use Rattle.station.specs.Types.{Fields, Station, Data, Kept, Written, Dropped, Repeat}
use Rattle.frame_reading.specs.Reading as reading

-- "A block with the listed areas and the same source, number, length and octets as the last one still gathered (in the assembly buffer as now
-- lent)", heard by a participant
pub record Repeats (station : Station) (octets assembly : List ℕ) (frame : Fields) : Type 0 where
  pub header : read_header_of octets ≡ Ok frame
  pub participating : is_participating station.phase ≡ true
  pub areas : same_areas frame.areas (entry_of station.members frame.source).areas ≡ true
  pub source : station.gathering.source ≡ frame.source
  pub number : station.gathering.blocks ≡ frame.block
  -- as many octets of the buffer, from the block's place on, are the frame's data
  pub same_data : take (length (reading.data_of octets frame)) (drop (start_of frame.block) assembly) ≡ reading.data_of octets frame

-- the data outcome "repeat"
abbrev pub is_repeated : Data → Bool
is_repeated Kept = false
is_repeated Written = false
is_repeated Dropped = false
is_repeated Repeat = true

abbrev pub any : Data → Bool
any outcome = true
