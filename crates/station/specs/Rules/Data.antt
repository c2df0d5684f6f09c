-- Paper 01, "Data": putting divided cyclic data together, and the copy that a turn is sent from; paper 02, E4: a block heard twice.
use Rattle.std.specs.Prelude.{◌&&◌, ◌||◌, ◌++◌, ◌+◌, ◌*◌}
use Rattle.laws.specs.Usual.{Bool, cond, not, List, ℕ, length, take, drop, eqb}
use Rattle.area.specs.Areas.{span_of}
use Rattle.area.specs.declared.Area.TheVariants.{One, Two}
use Rattle.area.specs.declared.Span.{Span}
use Rattle.block.specs.Blocks.{start_of}
use Rattle.comparing.specs.Same.{same}
use Rattle.copying.specs.Pasted.{pasted}
use Rattle.members.specs.Members.{entry_of}
use Rattle.station.specs.Rules.State.{nothing}
use Rattle.station.specs.Types.{Areas, Fields, Gathering, Station, Data, Kept, Written, Dropped, Repeat}

-- the octets of a span
abbrev pub octets_in : Span → List ℕ → List ℕ
octets_in span memory = take span.length (drop span.start memory)

-- "A turn's data are the station's area 1 then its area 2"
abbrev pub turn_of : Areas → List ℕ → List ℕ
turn_of areas memory = octets_in (span_of One areas.one) memory ++ octets_in (span_of Two areas.two) memory

-- the common memory with a whole turn written to these areas. "Our own areas are never written by a frame": no listed area overlaps them
-- (`Ours-kept`).
abbrev pub turn_written : Areas → List ℕ → List ℕ → List ℕ
turn_written areas turn memory =
    pasted
    (pasted memory (span_of One areas.one).start (take (2 * areas.one.size) turn))
    (span_of Two areas.two).start
    (take (2 * areas.two.size) (drop (2 * areas.one.size) turn))

abbrev pub same_areas : Areas → Areas → Bool
same_areas a b =
    (eqb a.one.address b.one.address && eqb a.one.size b.one.size)
    && (eqb a.two.address b.two.address && eqb a.two.size b.two.size)

-- what gathering one block leaves: "One turn is put together at a time."
pub record Gathered : Type 0 where
  pub gathering : Gathering
  pub assembly : List ℕ
  pub memory : List ℕ
  pub outcome : Data

-- "the same source, number, length and octets as the last one still gathered (in the assembly buffer as now lent)". The data are compared with what
-- that buffer has at the block's place. The length needs no test: both are a block of this number of the listed areas, and not the last
-- (`repeat_long`).
abbrev pub is_repeat : Gathering → Fields → List ℕ → List ℕ → Bool
is_repeat gathering frame octets assembly =
    (eqb gathering.source frame.source && eqb gathering.blocks frame.block)
    && same octets (take (length octets) (drop (start_of frame.block) assembly))

-- it "shall be passed over": nothing is gathered, and no octet changes
abbrev pub repeated : Gathering → List ℕ → List ℕ → Gathered
repeated gathering assembly memory = record { gathering = gathering; assembly = assembly; memory = memory; outcome = Repeat }

-- "Block 1 starts afresh. A block that isn't the next of the same source drops what was gathered, and itself unless it is block 1."
abbrev pub is_next : Gathering → Fields → Bool
is_next gathering frame =
    eqb frame.block 1 || (eqb gathering.source frame.source && eqb (gathering.blocks + 1) frame.block)

abbrev pub dropped : List ℕ → List ℕ → Gathered
dropped assembly memory = record { gathering = nothing; assembly = assembly; memory = memory; outcome = Dropped }

-- a block with its octets, stored at its place: "On the last block everything is written to the source's listed areas; before that, nothing."
abbrev pub storing : Areas → Fields → List ℕ → List ℕ → Gathered
storing listed frame assembly memory =
    cond (eqb frame.block frame.blocks)
    (record { gathering = nothing; assembly = assembly; memory = turn_written listed assembly memory; outcome = Written })
    (record { gathering = record { source = frame.source; blocks = frame.block }; assembly = assembly; memory = memory; outcome = Kept })

-- "Data are dropped with what was gathered, token still read, if the frame's areas differ from the listed ones." A repeat is asked for before
-- block 1 starts afresh: block 1, where it is all that is gathered, is one too.
abbrev pub gathered_from : Gathering → Areas → Fields → List ℕ → List ℕ → List ℕ → Gathered
gathered_from gathering listed frame octets assembly memory =
    cond (not (same_areas frame.areas listed)) (dropped assembly memory)
    (cond (is_repeat gathering frame octets assembly) (repeated gathering assembly memory)
    (cond (is_next gathering frame)
    (storing listed frame (pasted assembly (start_of frame.block) octets) memory)
    (dropped assembly memory)))

-- the listed ones are those that the source has in our list
abbrev pub gathered : Station → Fields → List ℕ → List ℕ → List ℕ → Gathered
gathered station frame = gathered_from station.gathering (entry_of station.members frame.source).areas frame

-- "Listing a station again .. drops what was gathered from it; striking it drops that too."
abbrev pub without : ℕ → Gathering → Gathering
without source gathering = cond (eqb source gathering.source) nothing gathering
