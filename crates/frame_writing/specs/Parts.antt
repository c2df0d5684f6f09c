-- The parts that a header is written in.
use Rattle.std.specs.Prelude.{◌++◌}
use Rattle.laws.specs.Usual.{List, ℕ}
use Rattle.frame_writing.specs.Writing.{four, long}

-- the first sixteen octets of every header, by the numbers that stand in them
abbrev pub front : ℕ → ℕ → ℕ → List ℕ
front whole source destination =
    four 0x46 0x41 0x43 0x4e  -- H_TYPE, "FACN"
    ++ long whole  -- TFL
    ++ four 0 0 0 source  -- SNA
    ++ four 0 0 0 destination  -- DNA
