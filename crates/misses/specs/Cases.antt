-- Misses told of single lists of calls, before anything is proved of all lists, each against numbers that the paper's sentences give. Assumes
-- nothing.
use Rattle.std.specs.Prelude.{◌∷◌, ◌++◌}
use Rattle.laws.specs.Usual.{[], Bool, List, ℕ, replicate}
use Rattle.members.specs.Members.{is_listed}
use Rattle.frame_round_trip.specs.Sent.{block_fields, request_fields}
use Rattle.station.specs.Rules.Calls.{Call, start, tick, hear, ask}
use Rattle.station.specs.Panel.History.{history, state_after}
use Rattle.station.specs.Rules.State.{never}
use Rattle.station.specs.Types.{Milliseconds, Fields}
use Rattle.station.specs.declared.Settings.{Settings}
use Rattle.frame_writing.specs.Writing.{no_areas, frame_of}
use Rattle.misses.specs.MissHistory.{misses_said, ends_third}
use Rattle.misses.specs.WatchHistory.{watch_run}

-- stations 1 and 2 have no areas, and a watch time of 1 ms, which is ten ticks
abbrev pub watch : Milliseconds
watch = record { 0 = 1 }

abbrev pub one : Settings
one = record { number = 1; areas = no_areas; watch = watch }

abbrev pub zeros : List ℕ
zeros = replicate 17408 0

abbrev pub hears : Fields → Call
hears fields = hear (frame_of fields []) zeros zeros

-- a token frame of station 2 to itself, and its request
abbrev pub token : Call
token = hears (block_fields 2 2 no_areas watch 1)

abbrev pub request : Call
request = hears (request_fields 2 no_areas watch)

-- station 1 hears three rounds of station 2, waits 4 ms for its number and sends its request: it participates, with station 2 in view
abbrev pub joined : List Call
joined = (start one ∷ token ∷ token ∷ token ∷ replicate 40 tick) ++ (ask zeros zeros zeros ∷ [])

-- then so many ticks come, and calls after them
abbrev pub silent : ℕ → List Call → List Call
silent ticks calls = joined ++ (replicate ticks tick ++ calls)

abbrev pub said : List Call → ℕ
said calls = misses_said 2 (history never calls)

abbrev pub third : List Call → Bool
third calls = ends_third 2 (history never calls)

abbrev pub listed : List Call → Bool
listed calls = is_listed (state_after never calls).members 2

abbrev pub run : List Call → ℕ
run calls = watch_run (history never calls)
