-- Hearing a frame (paper 01, "Numbers the station answers with", "Starting and joining", "The token view and the watch", "Data").
use Rattle.std.specs.Prelude.{Ok, Err, ◌&&◌, ◌||◌}
use Rattle.laws.specs.Usual.{Bool, cond, not, List, ℕ, length, eqb}
use Rattle.area.specs.Areas.{memory_octets}
use Rattle.frame.specs.Codes.{is_token, is_cyclic}
use Rattle.frame.specs.declared.Code.TheVariants.{Token, Cyclic, Request, Trigger}
use Rattle.members.specs.Listing.{listing}
use Rattle.members.specs.Members.{is_listed, cleared}
use Rattle.frame_reading.specs.Reading.{read_header_of, read_body_of, data_of}
use Rattle.station.specs.Rules.Data.{Gathered, gathered, without}
use Rattle.station.specs.Rules.Starting.{ours_due, joined_by}
use Rattle.station.specs.Rules.State.{is_off, is_participating, fresh, stopped, relisted}
use Rattle.station.specs.Rules.Token.{view_heard, restarted, outcome_of}
use Rattle.station.specs.Types.{Fields, Code, Refusal, Read, Phase, Off, Listening, Startup, Joining, Participating, Station, Dropped, Heard}
use Rattle.frame.specs.declared.Refusal.TheVariants as refusals
use Rattle.station.specs.declared.Heard.TheVariants as answers
use Rattle.station.specs.declared.Token.TheVariants as tokens

-- the call: the state after it, the answer, and the lent buffers after it
pub record Hearing : Type 0 where
  pub station : Station
  pub answer : Heard
  pub memory : List ℕ
  pub assembly : List ℕ

-- a request that is listed: "Listing a station again .. drops what was gathered from it"
abbrev pub requested : Station → Fields → Station
requested station frame =
    relisted station
    (listing station.members frame.source frame.areas frame.watch (ours_due station))
    (without frame.source station.gathering)

-- what a frame of each code does in each phase before we participate: "A token frame heard in listening .. or in ring startup goes to joining
-- with an empty list, and is the first frame read there." "A trigger .. heard in listening, begins ring startup." In ring startup "requests
-- heard are listed". "A participant that hears a request lists that station." "A frame that no rule here names for the present state changes nothing."
abbrev pub enters : Phase → Code → Station → Fields → Station
enters Off code station frame = station
enters Listening Token station frame = joined_by (fresh Joining station.own) frame
enters Listening Cyclic station frame = station
enters Listening Request station frame = station
enters Listening Trigger station frame = fresh Startup station.own
enters Startup Token station frame = joined_by (fresh Joining station.own) frame
enters Startup Cyclic station frame = station
enters Startup Request station frame = requested station frame
enters Startup Trigger station frame = station
enters Joining Token station frame = joined_by station frame
enters Joining Cyclic station frame = joined_by station frame
enters Joining Request station frame = station
enters Joining Trigger station frame = station
enters Participating Token station frame = station
enters Participating Cyclic station frame = station
enters Participating Request station frame = requested station frame
enters Participating Trigger station frame = station

-- the answer to a frame that a participant does not take as a cyclic one: "so is a frame of any of the four codes" at an off station; for a
-- cyclic frame none of the token; and "any other request or trigger that isn't refused, is answered 'done'"
abbrev pub enters_answer : Phase → Code → Heard
enters_answer phase code = cond (is_off phase) answers.Off (cond (is_cyclic code) (answers.Cyclic (tokens.None Dropped)) answers.Done)

-- "Every accepted cyclic frame restarts our watch .. and clears the source's misses." (How long it then runs: `watch_time` in Ticking.)
abbrev pub participant_heard : Station → Fields → Gathered → Hearing
participant_heard station frame after = record {
  station =
      restarted station (cleared station.members frame.source) (view_heard station.view frame) after.gathering station.panel;
  answer = answers.Cyclic (outcome_of station frame after.outcome);
  memory = after.memory;
  assembly = after.assembly;
}

-- a frame that no refusal met. "Only a participant gathers; before that the data are dropped."
abbrev pub accepted : Station → Fields → List ℕ → List ℕ → List ℕ → Hearing
accepted station frame octets memory assembly =
    cond (is_participating station.phase && is_cyclic frame.code)
    (participant_heard station frame (gathered station frame (data_of octets frame) assembly memory))
    (record {
      station = enters station.phase frame.code station frame;
      answer = enters_answer station.phase frame.code;
      memory = memory;
      assembly = assembly;
    })

-- 6: "source is our own number", which an off station does not ask
abbrev pub is_taken : Station → Fields → Bool
is_taken station frame = not (is_off station.phase) && eqb frame.source station.own.number

-- "6 before we participate also turns the station off, as stop does"
abbrev pub after_taken : Station → Station
after_taken station = cond (is_participating station.phase) station (stopped station)

-- 9: "we participate, code 65000 or 65001, and the source, or the token's destination, is neither ours nor in our list"
abbrev pub knows : Station → ℕ → Bool
knows station number = eqb number station.own.number || is_listed station.members number

abbrev pub is_stranger : Station → Fields → Bool
is_stranger station frame =
    (is_participating station.phase && is_cyclic frame.code)
    && not (knows station frame.source && (not (is_token frame.code) || knows station frame.destination))

-- 11: "common memory, assembly .. not 17,408 octets"
abbrev pub lent_right : List ℕ → List ℕ → Bool
lent_right memory assembly = eqb (length memory) memory_octets && eqb (length assembly) memory_octets

-- a refusal: "returns its number alone and alters nothing"
abbrev pub refused : Station → List ℕ → List ℕ → Refusal → Hearing
refused station memory assembly refusal = record { station = station; answer = answers.Refused refusal; memory = memory; assembly = assembly }

-- 7, 14, 15, 8, 9, then the frame is heard
abbrev pub body_heard : Station → List ℕ → List ℕ → List ℕ → Read → Hearing
body_heard station octets memory assembly (Err refusal) = refused station memory assembly refusal
body_heard station octets memory assembly (Ok frame) =
    cond (is_stranger station frame)
    (refused station memory assembly refusals.Stranger)
    (accepted station frame octets memory assembly)

-- 1 to 5, then 6
abbrev pub header_heard : Station → List ℕ → List ℕ → List ℕ → Read → Hearing
header_heard station octets memory assembly (Err refusal) = refused station memory assembly refusal
header_heard station octets memory assembly (Ok frame) =
    cond (is_taken station frame)
    (refused (after_taken station) memory assembly refusals.Taken)
    (body_heard station octets memory assembly (read_body_of (length octets) frame))

-- Order: 11, 10, 1, 2, 3, 4, 5, 6, 7, 14, 15, 8, 9, "the first that applies".
abbrev pub hear_of : Station → List ℕ → List ℕ → List ℕ → Hearing
hear_of station octets memory assembly =
    cond (lent_right memory assembly)
    (header_heard station octets memory assembly (read_header_of octets))
    (refused station memory assembly refusals.Buffer)
