-- The case that paper 02, E1, tells of: "A hirer put a slow drive with a 30 ms watch time among stations at 20 ms, and the others took the token
-- from it in mid-turn." Station 3 is the drive: its turn has two blocks, it sends the first, is silent for 25 ms, and nobody takes the token from
-- it; then it sends the second with the token. Assumes nothing.
use Rattle.std.specs.Prelude.{◌≡◌}
use Rattle.laws.specs.Usual.{refl, true, cond, List, [], ℕ, replicate, eqb}
use Rattle.frame_reading.specs.Reading.{fields_of}
use Rattle.frame_round_trip.specs.Sent.{block_fields}
use Rattle.frame_writing.specs.Writing.{no_areas, frame_of, header_of, front_of, back_of, fixed_for}
use Rattle.settling.specs.Steps.{after_all}
use Rattle.station.specs.Rules.State.{holds}
use Rattle.station.specs.Types.{Areas}
use Rattle.station.specs.declared.Settings.{Settings}
use Rattle.ring_worked.specs.Bringing.{large, up}
use Rattle.ring.specs.Events.{Stations, Event, asked, ticked, after_event}

-- 513 words of area 2
abbrev wide : Areas
wide = record { one = record { address = 0; size = 0 }; two = record { address = 0; size = 513 } }

abbrev quick : ℕ → Settings
quick number = record { number = number; areas = no_areas; watch = record { 0 = 20 } }

abbrev drive : Settings
drive = record { number = 3; areas = wide; watch = record { 0 = 30 } }

-- a token frame of station 1 or 2, and the last block of the drive's turn
abbrev token : ℕ → ℕ → List ℕ
token source destination = frame_of (block_fields source destination no_areas (record { 0 = 20 }) 1) []

abbrev drive_token : ℕ → List ℕ
drive_token destination = frame_of (block_fields 3 destination wide (record { 0 = 30 }) 2) (replicate 2 0)

-- Each was started, has heard three rounds of the others' frames, and at last that station 3 has the token; then it has sent its request.
abbrev pub stations : Stations
stations number =
    cond (eqb number 1) (up (quick 1) 40 (token 2 3) (drive_token 2) (token 2 3))
    (cond (eqb number 2) (up (quick 2) 80 (token 1 3) (drive_token 1) (token 1 3))
    (up drive 120 (token 1 2) (token 2 1) (token 2 3)))

-- station 3 is asked, and the others hear what it writes
abbrev asks_drive : Event
asks_drive = asked 3 large large (replicate 1088 0) (λ number. record { memory = large; assembly = large })

-- the first block, and 25 ms
abbrev pub mid_turn : Stations
mid_turn = after_all after_event (after_event stations asks_drive) (replicate 250 ticked)

pub keeps_the_token : ((mid_turn 1).view ≡ 3) × ((mid_turn 2).view ≡ 3) × (holds (mid_turn 3) ≡ true)
unfolding header_of front_of back_of fixed_for fields_of
keeps_the_token = (refl, refl, refl)

-- one block is sent, and the second goes with the token
pub in_mid_turn : ((mid_turn 3).block ≡ 1) × ((after_event mid_turn asks_drive 1).view ≡ 1) × ((after_event mid_turn asks_drive 2).view ≡ 1)
unfolding header_of front_of back_of fixed_for fields_of
in_mid_turn = (refl, refl, refl)
