-- Worked cases. Assumes nothing.
use Rattle.laws.specs.Usual.{true}
use Rattle.frame_writing.specs.Writing.{no_areas}
use Rattle.members.specs.Members.{no_members, with_entry}
use Rattle.station.specs.declared.Settings.{Settings}
use Rattle.station.specs.Types.{Members}

-- station 3, with a watch time of 2 ms
abbrev pub third : Settings
third = record { number = 3; areas = no_areas; watch = record { 0 = 2 } }

-- a list of station 9 alone, with a watch time of 4 ms
abbrev pub ninth : Members
ninth = with_entry no_members 9 (record { listed = true; areas = no_areas; watch = record { 0 = 4 }; misses = 0 })
