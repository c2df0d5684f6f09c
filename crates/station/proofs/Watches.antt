-- How long the watch runs, worked out for station 1 that lists 2 and 3: each case against the number of ticks that paper 02, E1, gives. Assumes
-- nothing.
use Rattle.laws.specs.Usual.{[], refl, true}
use Rattle.frame_reading.specs.Reading.{fields_of}
use Rattle.frame_round_trip.specs.Sent.{block_fields}
use Rattle.frame_writing.specs.Writing.{no_areas, frame_of, header_of, front_of, back_of, fixed_for}
use Rattle.members.specs.Members.{with_entry}
use Rattle.station.specs.Acts.{hears, zeros}
use Rattle.station.specs.Rules.State.{begun}
use Rattle.station.specs.Watches.{others, with_time, watching, EndsIn, requested}

-- "for the listed time of the station in view": longer than ours, and shorter
listed_longer : EndsIn (watching 2 3 2) 29 2 3
listed_longer = (refl, refl)

listed_shorter : EndsIn (watching 3 1 2) 9 2 3
listed_shorter = (refl, refl)

-- "a listed TW of 0 counts as 1 ms"
listed_0 : EndsIn (watching 2 0 2) 9 2 3
listed_0 = (refl, refl)

-- "our own time when we hold", also where our own number were listed, which no calls lead to
held : EndsIn (watching 2 1 1) 19 1 2
held = (refl, refl)

held_and_listed : EndsIn (begun (with_time 2) (with_entry (others 1) 1 (record { listed = true; areas = no_areas; watch = record { 0 = 1 }; misses = 0 })) 1) 19 1 2
held_and_listed = (refl, refl)

-- "or it isn't listed": 9 is in view
not_listed : EndsIn (watching 2 1 9) 19 9 1
not_listed = (refl, refl)

-- not for the time of the frame's source: station 3, whose time is 4 ms, passes the token to itself, and 2 stays in view
another_sends : EndsIn (hears (watching 3 2 2) (frame_of (block_fields 3 3 no_areas (record { 0 = 4 }) 1) []) zeros).station 19 2 3
unfolding header_of front_of back_of fixed_for fields_of
another_sends = (refl, refl)

-- "as list and view stand at each tick": 15 ticks of 20 have come, and the station in view asks with 1 ms, so the next tick ends the watch; with
-- 5 ms it ends at 50; another station's request does not matter
made_shorter : EndsIn (requested 15 2 1 (watching 3 2 2)) 0 2 3
unfolding header_of front_of back_of fixed_for fields_of
made_shorter = (refl, refl)

made_longer : EndsIn (requested 15 2 5 (watching 3 2 2)) 34 2 3
unfolding header_of front_of back_of fixed_for fields_of
made_longer = (refl, refl)

another_asks : EndsIn (requested 15 3 1 (watching 3 2 2)) 4 2 3
unfolding header_of front_of back_of fixed_for fields_of
another_asks = (refl, refl)
