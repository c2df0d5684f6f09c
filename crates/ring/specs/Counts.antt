-- Paper 01, "The ring in demand 3": what is a pass and what is a silence, told from the octets that are written and from the watches. Their
-- counts in a list of events, and what an event does to the views, are those of any ring that tells this much (`Counting` of settling).
use Rattle.std.specs.Prelude.{Ok, Err, ◌∷◌}
use Rattle.laws.specs.Usual.{[], Bool, false, cond, List, ℕ, take}
use Rattle.frame.specs.Codes.{is_token}
use Rattle.frame_reading.specs.Reading.{read_of}
use Rattle.settling.specs.Counting.{Counting}
use Rattle.station.specs.Rules.Asking.{ask_of}
use Rattle.frame_reading.specs.Reading.{Read}
use Rattle.station.specs.Types.{Asked}
use Rattle.ring.specs.Events.{Stations, Event, asked, ticked, stray, after_event, views_of, ends_watch}
use Rattle.settling.specs.Counting as counting

-- whom octets give the token to: the destination, where they read as a frame of code 65000, else nobody
abbrev pub token_to : Read → List ℕ
token_to (Ok frame) = cond (is_token frame.code) (frame.destination ∷ []) []
token_to (Err refusal) = []

-- the octets are those that an asking wrote to the front of the output
abbrev pub given_by : Asked → List ℕ → List ℕ
given_by (Ok count) output = token_to (read_of (take count output))
given_by (Err refusal) output = []

-- "A pass is an asking that writes code 65000; it gives the token to the destination." Whom an event gives it to: one station, or nobody
-- where the event is no pass
abbrev pub gives : Stations → Event → List ℕ
gives stations (asked who memory turn output lent) =
    given_by (ask_of (stations who) memory turn output).answer (ask_of (stations who) memory turn output).output
gives stations ticked = []
gives stations (stray who call) = []

-- the station that an event asks for a frame; where it asks none, any number will do
abbrev pub asks : Event → ℕ
asks (asked who memory turn output lent) = who
asks ticked = 0
asks (stray who call) = who

-- whether an event ends the watch of a station of the ring
abbrev pub ends : Stations → Event → ℕ → Bool
ends stations (asked who memory turn output lent) number = false
ends stations ticked number = ends_watch (stations number)
ends stations (stray who call) number = false

-- the ring of full stations, of which passes and silences are counted
abbrev pub ring_counting : Counting
ring_counting = record {
  State = Stations;
  Input = Event;
  after = after_event;
  views_of = views_of;
  asks = asks;
  gives = gives;
  ends = ends;
}

-- "A silence is a tick that ends the watches": of any station of the ring
abbrev pub is_silence : List ℕ → Stations → Event → Bool
is_silence = counting.is_silence ring_counting

-- how many passes a list of events has
abbrev pub passes : Stations → List Event → ℕ
passes = counting.passes ring_counting

-- how many silences
abbrev pub silences : List ℕ → Stations → List Event → ℕ
silences = counting.silences ring_counting

-- how often x is given the token
abbrev pub given : ℕ → Stations → List Event → ℕ
given = counting.given ring_counting

-- What an event does to the views of the ring: it is a pass, or a silence, or nothing to them.
abbrev pub Does : List ℕ → Stations → Event → Type 0
Does = counting.Does ring_counting
