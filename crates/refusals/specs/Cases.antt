-- Calls to which one number applies, or several, or none, each worked out by the rules and by the table. Assumes nothing.
use Rattle.std.specs.Prelude.{◌∷◌}
use Rattle.laws.specs.Usual.{[], List, ℕ, set, replicate}
use Rattle.area.specs.Areas.{memory_octets}
use Rattle.frame.specs.Positions.{TFL, TCD, C_SZ1, CBN, TBN, BSIZE}
use Rattle.frame_refusals.specs.Refusals.{number_of}
use Rattle.members.specs.Listing.{listing}
use Rattle.members.specs.Members.{no_members}
use Rattle.frame_round_trip.specs.Sent.{block_fields, request_fields, trigger_fields}
use Rattle.station.specs.Rules.Calls.{Call, start, stop, tick, hear, ask, Verdict, refused_by, unrefused, after}
use Rattle.station.specs.Rules.State.{fresh, stopped, begun}
use Rattle.station.specs.Types.{Milliseconds, Areas}
use Rattle.station.specs.declared.Settings.{Settings}
use Rattle.station.specs.declared.Phase.TheVariants.{Listening}
use Rattle.station.specs.declared.Station.{Station}
use Rattle.frame_writing.specs.Writing.{no_areas, frame_of}

-- the number that a call is answered with, 0 where it is not refused
abbrev pub number_in : Verdict → ℕ
number_in unrefused = 0
number_in (refused_by refusal) = number_of refusal

abbrev pub watch : Milliseconds
watch = record { 0 = 20 }

-- areas of which the first leaves its range
abbrev pub too_large : Areas
too_large = record { one = record { address = 0; size = 513 }; two = record { address = 0; size = 0 } }

abbrev pub settings_of : ℕ → Areas → ℕ → Settings
settings_of number areas time = record { number = number; areas = areas; watch = record { 0 = time } }

abbrev pub settings : Settings
settings = settings_of 7 no_areas 20

-- station 7: listening, stopped again, and participating with station 3 in its list and in view
abbrev pub listening : Station
listening = fresh Listening settings

abbrev pub off : Station
off = stopped listening

abbrev pub participant : Station
participant = begun settings (listing no_members 3 no_areas watch no_areas) 3

abbrev pub large : List ℕ
large = replicate memory_octets 0

-- octets heard, with buffers of the right length
abbrev pub hears : List ℕ → Call
hears octets = hear octets large large

-- a token frame, 64 octets, of an empty turn
abbrev pub token : ℕ → ℕ → List ℕ
token source destination = frame_of (block_fields source destination no_areas watch 1) []

abbrev pub request : ℕ → List ℕ
request source = frame_of (request_fields source no_areas watch) []

abbrev pub trigger : ℕ → List ℕ
trigger source = frame_of (trigger_fields source) []

-- the same octets with another mark, length, code, first area, total, block number or block length
abbrev pub unmarked : List ℕ → List ℕ
unmarked octets = set octets 0 0

abbrev pub longer : List ℕ → List ℕ
longer octets = set octets TFL 1

abbrev pub uncoded : List ℕ → List ℕ
uncoded octets = set octets TCD 0

abbrev pub widened : List ℕ → List ℕ
widened octets = set octets C_SZ1 255

abbrev pub recounted : ℕ → List ℕ → List ℕ
recounted total octets = set octets TBN total

abbrev pub renumbered : ℕ → List ℕ → List ℕ
renumbered number octets = set octets CBN number

abbrev pub resized : List ℕ → List ℕ
resized octets = set octets BSIZE 1

-- a call in a state, and the number that it is answered with
pub record Row : Type 0 where
  pub station : Station
  pub call : Call
  pub number : ℕ

abbrev pub row : Station → Call → ℕ → Row
row station call number = record { station = station; call = call; number = number }

abbrev pub rows : List Row
rows =
    -- 11 and 10 apply; 11 and 1
    row off (ask [] [] []) 11
    ∷ row off (hear [] [] []) 11
    -- 10 and 5; 10 alone
    ∷ row listening (start (settings_of 0 no_areas 20)) 10
    ∷ row off stop 10
    ∷ row off (ask large large (replicate 1088 0)) 10
    -- 1 and 2, 2 and 3, 3 and 4, 4 and 5
    ∷ row listening (hears []) 1
    ∷ row listening (hears (unmarked (longer (token 3 9)))) 2
    ∷ row listening (hears (longer (uncoded (token 3 9)))) 3
    ∷ row listening (hears (uncoded (token 0 9))) 4
    -- 5 and 6; 5 and 7 at a start; 5 by the watch time alone
    ∷ row listening (hears (token 7 0)) 5
    ∷ row off (start (settings_of 0 too_large 20)) 5
    ∷ row off (start (settings_of 7 no_areas 0)) 5
    -- 6 and 7, 7 and 14, 14 and 9
    ∷ row listening (hears (widened (token 7 3))) 6
    ∷ row listening (hears (widened (token 3 9))) 7
    ∷ row participant (hears (recounted 9 (token 9 3))) 14
    -- 14, 15 and 8; a total of 0 for empty areas, with 15; 14 alone, at an off station
    ∷ row listening (hears (recounted 9 (renumbered 0 (resized (token 3 9))))) 14
    ∷ row listening (hears (recounted 0 (token 3 9))) 14
    ∷ row off (hears (recounted 9 (token 7 3))) 14
    -- 15 and 8; 15 by block 0 and by the block after the last; 15 and 9
    ∷ row listening (hears (renumbered 0 (resized (token 3 9)))) 15
    ∷ row off (hears (renumbered 0 (token 7 3))) 15
    ∷ row listening (hears (renumbered 2 (token 3 9))) 15
    ∷ row participant (hears (renumbered 2 (token 9 3))) 15
    -- 8 alone, 8 and 9
    ∷ row listening (hears (resized (token 3 9))) 8
    ∷ row participant (hears (resized (token 9 3))) 8
    -- 7 alone at a start; 9 alone, by the source and by the token's destination
    ∷ row off (start (settings_of 7 too_large 20)) 7
    ∷ row participant (hears (token 9 3)) 9
    ∷ row participant (hears (token 3 9)) 9
    -- none: 7 does not look at a trigger, nor 14, 15 or 8 at a request, nor 6 at an off station, nor 9 before we participate
    ∷ row listening (hears (widened (trigger 3))) 0
    ∷ row listening (hears (recounted 9 (renumbered 0 (resized (request 3))))) 0
    ∷ row off (hears (token 7 3)) 0
    ∷ row listening (hears (token 9 3)) 0
    -- none
    ∷ row off (start settings) 0
    ∷ row listening stop 0
    ∷ row off tick 0
    ∷ row participant (hears (token 3 7)) 0
    ∷ row (after participant (hears (token 3 7))) (ask large large (replicate 1088 0)) 0
    ∷ []
