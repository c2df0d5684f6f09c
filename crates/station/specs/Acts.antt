-- What a station does, before anything is proved of all stations: the law by which the ring of demand 3 sees a token frame move a view, and the
-- rules worked out for stations 1, 2 and 3, each against numbers that the paper's sentences give. Assumes nothing.
use Rattle.laws.specs.Usual.{[], List, ℕ, suc, replicate}
use Rattle.std.specs.Prelude.{zero}
use Rattle.members.specs.Listing.{listing}
use Rattle.members.specs.Members.{no_members, entry_of, misses_set, struck, with_entry}
use Rattle.frame_round_trip.specs.Sent.{block_fields}
use Rattle.station.specs.Rules.Asking.{Asking, ask_of}
use Rattle.station.specs.Rules.Hearing.{Hearing, hear_of}
use Rattle.station.specs.Rules.State.{begun, fresh, nothing, relisted}
use Rattle.station.specs.Rules.Ticking.{tick_of}
use Rattle.station.specs.Types.{Milliseconds, Areas, Members, Listening, Startup, Station}
use Rattle.frame_writing.specs.Writing.{no_areas, frame_of}

-- The stations: a watch time of 1 ms, which is ten ticks. Station 2 has 513 words of area 2, which are two blocks, the others have nothing.
abbrev pub watch : Milliseconds
watch = record { 0 = 1 }

abbrev pub wide : Areas
wide = record { one = record { address = 0; size = 0 }; two = record { address = 0; size = 513 } }

abbrev pub all : Members
all = listing (listing (listing no_members 1 no_areas watch no_areas) 2 wide watch no_areas) 3 no_areas watch no_areas

-- a participant that lists the two others, with a view
abbrev pub among : ℕ → Areas → ℕ → Station
among number areas view = begun (record { number = number; areas = areas; watch = watch }) (struck all number) view

abbrev pub ticks : ℕ → Station → Station
ticks zero station = station
ticks (suc count) station = ticks count (tick_of station).station

abbrev pub zeros : List ℕ
zeros = replicate 17408 0

-- a frame of one block from a station that has nothing
abbrev pub token : ℕ → ℕ → List ℕ
token source destination = frame_of (block_fields source destination no_areas watch 1) []

-- one block of station 2's turn, all octets 7, the last with the token for station 3
abbrev pub part : ℕ → List ℕ
part block = frame_of (block_fields 2 3 wide watch block) (replicate 1024 7)

abbrev pub hears : Station → List ℕ → List ℕ → Hearing
hears station octets memory = hear_of station octets memory zeros

abbrev pub asks : Station → Asking
asks station = ask_of station zeros zeros zeros

abbrev pub missed_twice : Station
missed_twice =
    relisted (among 1 no_areas 2) (with_entry (struck all 1) 2 (misses_set 2 (entry_of all 2))) nothing

-- Station 1 hears block 1 and keeps it, and the common memory has none of it; with block 2 it has both.
abbrev pub half : Hearing
half = hears (among 1 no_areas 2) (part 1) zeros

abbrev pub full : Hearing
full = hear_of half.station (part 2) zeros half.assembly

abbrev pub listens : Station
listens = fresh Listening (record { number = 1; areas = wide; watch = watch })

-- Our areas overlap those of station 2, and our request falls due in the fortieth tick: then both our sizes are 0.
abbrev pub starts : Station
starts = relisted (fresh Startup (record { number = 1; areas = wide; watch = watch })) (struck all 1) nothing
