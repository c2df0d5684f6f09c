-- Paper 01, "Starting and joining": start and stop, when our trigger and our request are due, and what joining reads.
use Rattle.std.specs.Prelude.{Ok, Err, ◌&&◌, ◌∷◌, ◌+◌}
use Rattle.laws.specs.Usual.{[], Bool, true, false, cond, not, List, ℕ, min, eqb, leb, ltb}
use Rattle.area.specs.Areas.{in_range}
use Rattle.frame.specs.Codes.{is_token}
use Rattle.members.specs.Listing.{bare, overlaps_listed, listing}
use Rattle.members.specs.Members.{smallest}
use Rattle.frame_reading.specs.Reading.{is_station}
use Rattle.frame_writing.specs.Writing.{no_areas}
use Rattle.station.specs.Rules.State.{is_off, no_ticks, fresh, stopped, begun, learned}
use Rattle.station.specs.Rules.Waits.{number_wait, listening_time}
use Rattle.station.specs.Types.{Areas, Fields, Refusal, Members, Settings, Phase, Off, Listening, Startup, Joining, Participating, Station, Switched}
use Rattle.frame.specs.declared.Refusal.TheVariants as refusals

-- a call of start or stop: the state after it, and the answer
pub record Switching : Type 0 where
  pub station : Station
  pub answer : Switched

-- a call that is refused where a test fails, and then alters nothing
abbrev pub need : Bool → Refusal → Station → Switching → Switching
need true refusal station rest = rest
need false refusal station rest = record { station = station; answer = Err refusal }

-- "Start goes to listening with an empty list." 10 where it is not off; 5 for "an own number outside 1 to 254", and "0 at start" for the
-- watch time "is answered 5"; 7 for our own areas
abbrev pub start_of : Station → Settings → Switching
start_of station own =
    need (is_off station.phase) refusals.NotDue station
    (need (is_station own.number && ltb 0 own.watch.0) refusals.Address station
    (need (in_range own.areas) refusals.Area station
    (record { station = fresh Listening own; answer = Ok tt })))

-- 10 where it is off
abbrev pub stop_of : Station → Switching
stop_of station = need (not (is_off station.phase)) refusals.NotDue station (record { station = stopped station; answer = Ok tt })

-- whether our trigger is due: "No token in listening for the token detection wait: wait the trigger wait, then a trigger is due."
abbrev pub trigger_due : Station → Bool
trigger_due station = leb (listening_time station.own.number) station.elapsed.0

-- whether our request has fallen due in ring startup ("after the wait for our number"), in joining (likewise, after three rounds), or before
abbrev pub request_fallen : Phase → Station → Bool
request_fallen Off station = false
request_fallen Listening station = false
request_fallen Startup station = leb (number_wait station.own.number) station.elapsed.0
request_fallen Joining station = eqb station.rounds 3 && leb (number_wait station.own.number) station.waited.0
request_fallen Participating station = true

-- "ours once our request has fallen due": else areas that overlap nothing
abbrev pub ours_due : Station → Areas
ours_due station = cond (request_fallen station.phase station) station.own.areas no_areas

-- "If our own areas overlap a listed one when our request falls due, both our sizes become 0."
abbrev pub own_due : Settings → Members → Settings
own_due own members =
    cond (overlaps_listed members own.areas)
    (record { number = own.number; areas = bare own.areas; watch = own.watch })
    own

-- "Then we participate and our view is the smallest listed number, ours included. If nobody else is listed, back to listening with an empty
-- list."
abbrev pub started_up : Settings → Members → List ℕ → Station
started_up own members [] = fresh Listening own
started_up own members (number ∷ rest) = begun own members (smallest own.number members)

-- "A round ends when a token frame's destination is not above its source."
abbrev pub ends_round : Fields → Bool
ends_round frame = is_token frame.code && leb frame.destination frame.source

-- "Joining learns source, areas and watch time from cyclic frames for three rounds." Token destinations are noted, and the token detection
-- wait starts afresh at each token frame, also after the third round.
abbrev pub joined_by : Station → Fields → Station
joined_by station frame =
    learned station
    (cond (ltb station.rounds 3)
    (listing station.members frame.source frame.areas frame.watch no_areas)
    station.members)
    (cond (is_token frame.code) no_ticks station.elapsed)
    (cond (ends_round frame) (min 3 (station.rounds + 1)) station.rounds)
    (cond (is_token frame.code) frame.destination station.view)
