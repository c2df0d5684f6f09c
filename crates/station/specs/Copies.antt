-- A block heard twice, worked out for station 1 that lists 2 and 3: each case against the outcome that paper 02, E4, gives. The blocks have two
-- octets in place of 1024, since no rule of gathering looks at their length. Assumes nothing.
use Rattle.std.specs.Prelude.{◌∷◌}
use Rattle.laws.specs.Usual.{[], List, ℕ, replicate}
use Rattle.frame_writing.specs.Writing.{no_areas}
use Rattle.members.specs.Listing.{listing}
use Rattle.members.specs.Members.{no_members, entry_of, misses_set, with_entry}
use Rattle.station.specs.Rules.Data.{gathered}
use Rattle.station.specs.Rules.Hearing.{Hearing, participant_heard}
use Rattle.station.specs.Rules.State.{begun, relisted}
use Rattle.station.specs.Rules.Ticking.{tick_of}
use Rattle.station.specs.Types.{Milliseconds, Areas, Code, Fields, Members, Station}
use Rattle.frame.specs.declared.Code.TheVariants as codes

-- stations 2 and 3 send three blocks each
abbrev pub three : ℕ → Areas
three words = record { one = record { address = 0; size = 0 }; two = record { address = words; size = 1100 } }

abbrev pub time : Milliseconds
time = record { 0 = 1 }

abbrev pub others : Members
others = listing (listing no_members 2 (three 0) time no_areas) 3 (three 2000) time no_areas

-- a block of a source, with the token for a destination
abbrev pub block : Code → ℕ → ℕ → Areas → ℕ → Fields
block code source destination areas number = record {
  length = 66;
  code = code;
  source = source;
  destination = destination;
  areas = areas;
  block = number;
  blocks = 3;
  size = 2;
  watch = time;
}

abbrev pub from2 : ℕ → Fields
from2 number = block codes.Cyclic 2 3 (three 0) number

abbrev pub hears : Station → Fields → List ℕ → List ℕ → Hearing
hears station frame octets assembly = participant_heard station frame (gathered station frame octets assembly [])

-- after block 1, and after block 2
abbrev pub first : Hearing
first = hears (begun (record { number = 1; areas = no_areas; watch = time }) others 2) (from2 1) (7 ∷ 8 ∷ []) (replicate 3000 0)

abbrev pub second : Hearing
second = hears first.station (from2 2) (5 ∷ 6 ∷ []) first.assembly

-- "or a copy of a turn's last block": nothing is gathered then
abbrev pub third : Hearing
third = hears second.station (from2 3) (1 ∷ 2 ∷ []) second.assembly

-- watch and misses too: a tick has come, and then none; two misses, and then none
abbrev pub missed : Station
missed = relisted (tick_of second.station).station (with_entry others 2 (misses_set 2 (entry_of others 2))) second.station.gathering
