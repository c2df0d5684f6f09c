-- Misses told of single lists of calls, before anything is proved of all lists, each against numbers that the paper's sentences give. Assumes
-- nothing.
use Rattle.std.specs.Prelude.{◌≡◌, ◌∷◌}
use Rattle.laws.specs.Usual.{[], refl, true, false}
use Rattle.frame_reading.specs.Reading.{fields_of, read_of}
use Rattle.frame_writing.specs.Writing.{header_of, front_of, back_of, fixed_for}
use Rattle.misses.specs.Cases.{token, request, silent, said, third, listed, run}

-- "It ends once ten ticks for each of its milliseconds have come", and the tenth is the first miss.
first_miss : (said (silent 9 []) ≡ 0) × (said (silent 10 []) ≡ 1)
unfolding header_of front_of back_of fixed_for fields_of read_of
first_miss = (refl, refl)

-- In the next ten the view is our own number, which is no miss of station 2; in the ten after these it is station 2 again.
ours_in_view : (said (silent 20 []) ≡ 1) × (said (silent 30 []) ≡ 2)
unfolding header_of front_of back_of fixed_for fields_of read_of
ours_in_view = (refl, refl)

-- "Every accepted cyclic frame .. clears the source's misses."
frame_clears : said (silent 30 (token ∷ [])) ≡ 0
unfolding header_of front_of back_of fixed_for fields_of read_of
frame_clears = refl

-- "Listing a station again replaces its entry, misses cleared"
listing_clears : said (silent 30 (request ∷ [])) ≡ 0
unfolding header_of front_of back_of fixed_for fields_of read_of
listing_clears = refl

-- "A third miss in a row strikes it from the list": the second does not, the third does.
second_stays : (third (silent 30 []) ≡ false) × (listed (silent 30 []) ≡ true)
unfolding header_of front_of back_of fixed_for fields_of read_of
second_stays = (refl, refl)

third_strikes : (listed (silent 49 []) ≡ true) × (third (silent 50 []) ≡ true) × (listed (silent 50 []) ≡ false)
unfolding header_of front_of back_of fixed_for fields_of read_of
third_strikes = (refl, refl, refl)

-- The watch runs from its restart: nine ticks have come, and the tenth ends it. A frame of station 2 restarts it, also with us in view.
watch_runs : (run (silent 9 []) ≡ 9) × (run (silent 10 []) ≡ 0)
unfolding header_of front_of back_of fixed_for fields_of read_of
watch_runs = (refl, refl)

frame_restarts : (run (silent 15 []) ≡ 5) × (run (silent 15 (token ∷ [])) ≡ 0)
unfolding header_of front_of back_of fixed_for fields_of read_of
frame_restarts = (refl, refl)
