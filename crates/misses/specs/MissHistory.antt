-- Paper 01, "The token view and the watch": misses, and the third in a row, told from the calls since off, from the frames that were heard, and
-- from the phase, the rounds, the view and the watch before each call (`WatchHistory` tells when the watch ends from the calls, too). Nothing
-- here looks at the misses that an entry carries, nor at what strikes it.
use Rattle.std.specs.Prelude.{Ok, Err, ◌≡◌, ◌&&◌, ◌||◌, ◌∷◌}
use Rattle.laws.specs.Usual.{[], Bool, true, false, cond, List, ℕ, suc, eqb, ltb}
use Rattle.frame.specs.Codes.{is_token, is_cyclic}
use Rattle.frame.specs.declared.Code.TheVariants.{Token, Cyclic, Request, Trigger}
use Rattle.members.specs.Members.{is_listed}
use Rattle.frame_reading.specs.Reading.{read_of}
use Rattle.station.specs.Rules.Calls.{Call, start, stop, tick, hear, ask, Verdict, refused_by, unrefused, verdict}
use Rattle.station.specs.Panel.History.{Step, step_of, history, state_after, participates, is_tick}
use Rattle.station.specs.Rules.State.{never}
use Rattle.station.specs.Rules.Ticking.{watch_ends}
use Rattle.station.specs.Types.{Fields, Code, Read}
use Rattle.station.specs.declared.Phase.{Phase}
use Rattle.station.specs.declared.Phase.TheVariants.{Off, Listening, Startup, Joining, Participating}
use Rattle.station.specs.declared.Station.{Station}

abbrev pub is_request : Code → Bool
is_request Token = false
is_request Cyclic = false
is_request Request = true
is_request Trigger = false

abbrev pub is_unrefused : Verdict → Bool
is_unrefused (refused_by refusal) = false
is_unrefused unrefused = true

-- the octets read as a frame that meets a test
abbrev pub reads_as : (Fields → Bool) → Read → Bool
reads_as test (Ok frame) = test frame
reads_as test (Err refusal) = false

-- a call that hears such a frame unrefused
abbrev pub hears : (Fields → Bool) → Station → Call → Bool
hears test station (start settings) = false
hears test station stop = false
hears test station tick = false
hears test station (hear octets memory assembly) =
    is_unrefused (verdict station (hear octets memory assembly)) && reads_as test (read_of octets)
hears test station (ask memory turn output) = false

-- whether a frame's source is listed, by the phase that it comes in, the rounds heard by then, and its code: "A token frame heard in listening
-- .. or in ring startup goes to joining .. and is the first frame read there"; in ring startup "requests heard are listed"; "Joining learns
-- source, areas and watch time from cyclic frames for three rounds"; "A participant that hears a request lists that station."
abbrev pub lists_in : Phase → ℕ → Code → Bool
lists_in Off rounds code = false
lists_in Listening rounds code = is_token code
lists_in Startup rounds code = is_token code || is_request code
lists_in Joining rounds code = is_cyclic code && ltb rounds 3
lists_in Participating rounds code = is_request code

-- a listing of x: "Listing a station again replaces its entry, misses cleared"
abbrev pub lists : ℕ → Station → Call → Bool
lists x station call = hears (λ frame. lists_in station.phase station.rounds frame.code && eqb frame.source x) station call

-- "Every accepted cyclic frame .. clears the source's misses": one of x, at a participant
abbrev pub accepts : ℕ → Station → Call → Bool
accepts x station call = hears (λ frame. participates station && (is_cyclic frame.code && eqb frame.source x)) station call

-- an ending of our watch with x in view: "When the watch ends, the station in view gets a miss"
abbrev pub ends : ℕ → Station → Call → Bool
ends x station call = is_tick call && (participates station && (watch_ends station && eqb station.view x))

-- the misses after a step, by whether it lists the station, accepts a cyclic frame of it, or ends our watch with it in view
abbrev pub misses_after : Bool → Bool → Bool → ℕ → ℕ
misses_after listed accepted ended misses = cond listed 0 (cond accepted 0 (cond ended (suc misses) misses))

-- the endings of our watch with x in view since x was last listed, or a cyclic frame of it last accepted. (Of a number that is not listed this
-- says nothing: when it is listed, it begins anew.)
abbrev pub misses_said : ℕ → List Step → ℕ
misses_said x [] = 0
misses_said x (step ∷ earlier) =
    misses_after (lists x step.before step.call) (accepts x step.before step.call) (ends x step.before step.call)
    (misses_said x earlier)

-- "A third miss in a row strikes it from the list": an ending of our watch, with so many misses after it
abbrev pub is_third : Bool → ℕ → Bool
is_third ended misses = ended && eqb misses 3

-- the latest step ends our watch with x in view for the third time running
abbrev pub ends_third : ℕ → List Step → Bool
ends_third x [] = false
ends_third x (step ∷ earlier) = is_third (ends x step.before step.call) (misses_said x (step ∷ earlier))

-- "Stop .. empties the list"
abbrev pub is_stop : Call → Bool
is_stop (start settings) = false
is_stop stop = true
is_stop tick = false
is_stop (hear octets memory assembly) = false
is_stop (ask memory turn output) = false

-- a tick now would end our watch with a listed station in view, for the third time running
abbrev pub third_in_view : Station → List Step → Bool
third_in_view station steps = is_listed station.members station.view && ends_third station.view (step_of station tick ∷ steps)

-- "brought there by whatever calls since off"
pub record Brought (station : Station) : Type 0 where
  pub calls : List Call
  pub there : state_after never calls ≡ station

-- "Missed three times running is struck, at any station and with misses from before the list": a tick now would make it so, by the calls that
-- brought the station there
pub record ThirdRunning (station : Station) : Type 0 where
  pub brought : Brought station
  pub third : third_in_view station (history never brought.calls) ≡ true
