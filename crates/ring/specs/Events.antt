-- Paper 01, "The ring in demand 3": what happens in a ring of full stations. Words in quotes are the paper's.
use Rattle.std.specs.Prelude.{Ok, Err, ◌≡◌, ◌&&◌}
use Rattle.laws.specs.Usual.{Bool, true, false, cond, List, ℕ, take, eqb}
use Rattle.frame.specs.Codes.{is_cyclic}
use Rattle.frame.specs.declared.Code.TheVariants.{Request}
use Rattle.misses.specs.MissHistory.{ThirdRunning}
use Rattle.frame_reading.specs.Reading.{read_of}
use Rattle.settling.specs.Ring.{◌∈◌, Agreed}
use Rattle.station.specs.Rules.Calls.{Call, start, hear, after, refused_by, verdict}
use Rattle.station.specs.Rules.State.{is_participating, holds}
use Rattle.station.specs.Rules.Ticking.{tick_of, watch_ends}
use Rattle.station.specs.Rules.Waits.{counts_as}
use Rattle.station.specs.Types.{Fields, Refusal}
use Rattle.station.specs.declared.Settings.{Settings}
use Rattle.station.specs.declared.Station.{Station}
use Rattle.station.specs.Types.{Asked}
use Rattle.station.specs.Rules.Asking as asking
use Rattle.station.specs.Rules.Hearing as hearing

-- the stations of a ring, by their numbers
abbrev pub Stations : Type 0
Stations = ℕ → Station

-- the buffers that a station lends to hear a frame
pub record Lent : Type 0 where
  pub memory : List ℕ
  pub assembly : List ℕ

-- "An event is one of these: one station is asked for a frame; each other one is then handed what it writes, once. Every station gets one
-- tick. A stray: one station alone gets any call .." Each call carries the buffers that are lent to it.
pub data Event : Type 0 where
  asked : (who : ℕ) (memory turn output : List ℕ) → (ℕ → Lent) → Event
  ticked : Event
  stray : (who : ℕ) → Call → Event

-- "Refused, nobody is handed anything."
abbrev pub handed : Station → Lent → Asked → List ℕ → Station
handed station lent (Ok count) output = (hearing.hear_of station (take count output) lent.memory lent.assembly).station
handed station lent (Err refusal) output = station

-- the stations after an event: "Each call gets the state that its station's last call left"
abbrev pub after_event : Stations → Event → Stations
after_event stations (asked who memory turn output lent) number =
    cond (eqb number who)
    (asking.ask_of (stations who) memory turn output).station
    (handed (stations number) (lent number)
    (asking.ask_of (stations who) memory turn output).answer
    (asking.ask_of (stations who) memory turn output).output)
after_event stations ticked number = (tick_of (stations number)).station
after_event stations (stray who call) number = cond (eqb number who) (after (stations who) call) (stations number)

abbrev pub views_of : Stations → ℕ → ℕ
views_of stations number = (stations number).view

-- "All name one holder when all views are equal."
abbrev pub AllName : List ℕ → Stations → Type 0
AllName numbers stations = Agreed numbers (views_of stations)

-- a tick at this station ends its watch: only a participant has one
abbrev pub ends_watch : Station → Bool
ends_watch station = is_participating station.phase && watch_ends station

-- "any call that is refused, or any other call but a tick, a stop, an asking, a cyclic frame of whatever number, or a request of a number
-- outside the ring"; nor a request with another watch time than the one of the ring: "as long as every listed time stays that one: a request
-- heard with another ends the cover, as a third miss does" (paper 02, E1; `AnotherTime` of ring_worked shows why)
pub data Stray (numbers : List ℕ) (station : Station) : Call → Type 0 where
  refused : {call : Call} (refusal : Refusal) → verdict station call ≡ refused_by refusal → Stray numbers station call
  starts : (settings : Settings) → Stray numbers station (start settings)
  harmless : (octets memory assembly : List ℕ) (fields : Fields) → read_of octets ≡ Ok fields → is_cyclic fields.code ≡ false
      → (fields.code ≡ Request → (fields.source ∈ numbers) × ((counts_as fields.watch).0 ≡ station.own.watch.0))
      → Stray numbers station (hear octets memory assembly)

-- An event that demand 3 covers: buffers "at lengths that 11 lets through, strays aside"; no tick that "ends a holder's watch"; and none that
-- makes a station "missed three times running", which is told from the calls since off and not from the list.
abbrev pub CanCome : List ℕ → Stations → Event → Type 0
CanCome numbers stations (asked who memory turn output lent) =
    (who ∈ numbers) × (asking.lent_right memory turn output ≡ true)
    × ((number : ℕ) → number ∈ numbers → hearing.lent_right (lent number).memory (lent number).assembly ≡ true)
CanCome numbers stations ticked =
    ((number : ℕ) → number ∈ numbers → ends_watch (stations number) ≡ true → holds (stations number) ≡ false)
    × ((number : ℕ) → number ∈ numbers → ends_watch (stations number) ≡ true → ¬ ThirdRunning (stations number))
CanCome numbers stations (stray who call) = (who ∈ numbers) × Stray numbers (stations who) call
