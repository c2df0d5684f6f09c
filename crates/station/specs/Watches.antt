-- How long the watch runs, worked out for station 1 that lists 2 and 3: each case against the number of ticks that paper 02, E1, gives. Assumes
-- nothing.
use Rattle.std.specs.Prelude.{◌≡◌, ◌+◌}
use Rattle.laws.specs.Usual.{[], ℕ}
use Rattle.frame_round_trip.specs.Sent.{request_fields}
use Rattle.frame_writing.specs.Writing.{no_areas, frame_of}
use Rattle.members.specs.Listing.{listing}
use Rattle.members.specs.Members.{no_members}
use Rattle.station.specs.Acts.{ticks, hears, zeros}
use Rattle.station.specs.Rules.State.{begun}
use Rattle.station.specs.Types.{Members, Settings, Station}

-- the other two, 2 with a time of so many milliseconds, 3 with 4
abbrev pub others : ℕ → Members
others time = listing (listing no_members 2 no_areas (record { 0 = time }) no_areas) 3 no_areas (record { 0 = 4 }) no_areas

abbrev pub with_time : ℕ → Settings
with_time time = record { number = 1; areas = no_areas; watch = record { 0 = time } }

-- our time, that of station 2, and our view
abbrev pub watching : ℕ → ℕ → ℕ → Station
watching own time view = begun (with_time own) (others time) view

-- the watch ends in just this tick: the view, at first `view`, is `next` then
abbrev pub EndsIn : Station → ℕ → ℕ → ℕ → Type 0
EndsIn station before view next = ((ticks before station).view ≡ view) × ((ticks (before + 1) station).view ≡ next)

-- the station after so many ticks, and then a request of a station with a time
abbrev pub requested : ℕ → ℕ → ℕ → Station → Station
requested before source time station =
    (hears (ticks before station) (frame_of (request_fields source no_areas (record { 0 = time })) []) zeros).station
