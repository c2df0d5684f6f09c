-- A tick (paper 01, "Starting and joining", "The token view and the watch").
use Rattle.std.specs.Prelude.{◌&&◌, ◌||◌, ◌+◌}
use Rattle.laws.specs.Usual.{Bool, cond, not, ℕ, min, eqb, leb, ltb}
use Rattle.members.specs.Members.{numbers_of, entry_of, next_after, is_listed, strikes, missed}
use Rattle.panel.specs.Panel.{ticked}
use Rattle.station.specs.Rules.Data.{without}
use Rattle.station.specs.Rules.Starting.{own_due, started_up}
use Rattle.station.specs.Rules.State.{fresh, holds, counted}
use Rattle.station.specs.Rules.Token.{restarted}
use Rattle.station.specs.Rules.Waits.{detection_wait, acceptance_time, number_wait, listening_time, watch_ticks, counts_as, longest_watch}
use Rattle.station.specs.Types.{Milliseconds, Ticks, Settings, Phase, Off, Listening, Startup, Joining, Participating, Station, Ticked}
use Rattle.station.specs.declared.Ticked.TheVariants as answers

-- one tick more, up to a limit
abbrev pub later : ℕ → Ticks → Ticks
later most ticks = record { 0 = min most (ticks.0 + 1) }

-- the wait for our number ends in a tick from one count to another
abbrev pub wait_ends : ℕ → Ticks → Ticks → Bool
wait_ends number before after = ltb before.0 (number_wait number) && leb (number_wait number) after.0

-- in joining, that wait runs from the end of the third round
abbrev pub waited_then : ℕ → ℕ → Ticks → Ticks
waited_then number rounds waited = cond (eqb rounds 3) (later (number_wait number) waited) waited

-- our request falls due in the tick that ends the wait for our number: "when our request falls due"
abbrev pub falls_due : Station → Ticks → Ticks → Settings
falls_due station before after =
    cond (wait_ends station.own.number before after)
    (own_due station.own station.members)
    station.own

-- "until the acceptance time ends, when an unsent request lapses"
abbrev pub startup_tick : Station → Ticks → Station
startup_tick station elapsed =
    cond (leb acceptance_time elapsed.0)
    (started_up station.own station.members (numbers_of station.members))
    (counted station (falls_due station station.elapsed elapsed) elapsed station.waited station.panel)

-- after three rounds "our request falls due after the wait for our number"
abbrev pub joining_wait : Station → Ticks → Ticks → Station
joining_wait station elapsed waited = counted station (falls_due station station.waited waited) elapsed waited station.panel

-- "No token for the token detection wait: back to listening with an empty list."
abbrev pub joining_tick : Station → Ticks → Station
joining_tick station elapsed =
    cond (leb detection_wait elapsed.0)
    (fresh Listening station.own)
    (joining_wait station elapsed (waited_then station.own.number station.rounds station.waited))

-- "When the watch ends, the station in view gets a miss if it is listed, the view becomes next after it, and the watch restarts. .. A holder
-- whose own watch ends gives up the token likewise, without a miss. One ending of a watch, at all stations alike, is a silence." (Our own
-- number is never listed.)
abbrev pub watch_ended : Station → Station
watch_ended station =
    restarted station (missed station.members station.view)
    (next_after station.own.number station.members station.view)
    (cond (is_listed station.members station.view && strikes station.members station.view)
    (without station.view station.gathering)
    station.gathering)
    (ticked station.panel)

-- "The watch shall now run, as list and view stand at each tick, for the listed time of the station in view, our own time when we hold or it
-- isn't listed; a listed TW of 0 counts as 1 ms." (Paper 02, E1.)
abbrev pub watch_time : Station → Milliseconds
watch_time station =
    cond (holds station || not (is_listed station.members station.view))
    station.own.watch
    (counts_as (entry_of station.members station.view).watch)

abbrev pub watch_of : Station → ℕ
watch_of station = watch_ticks (watch_time station)

-- "It ends once ten ticks for each of its milliseconds have come": a time that became shorter may have come already
abbrev pub watch_ends : Station → Bool
watch_ends station = leb (watch_of station) (station.elapsed.0 + 1)

abbrev pub participant_tick : Station → Ticks → Station
participant_tick station elapsed =
    cond (watch_ends station)
    (watch_ended station)
    (counted station station.own elapsed station.waited (ticked station.panel))

-- a tick in each phase
abbrev pub ticked_by : Phase → Station → Station
ticked_by Off station = station
ticked_by Listening station = counted station station.own (later (listening_time station.own.number) station.elapsed) station.waited station.panel
ticked_by Startup station = startup_tick station (later acceptance_time station.elapsed)
ticked_by Joining station = joining_tick station (later detection_wait station.elapsed)
ticked_by Participating station = participant_tick station (later longest_watch station.elapsed)

-- the call: the state after it, and the answer
pub record Ticking : Type 0 where
  pub station : Station
  pub answer : Ticked

-- "A tick at an off station is answered 'off' with no change .. Any other tick .. is answered 'done'."
abbrev pub tick_answer : Phase → Ticked
tick_answer Off = answers.Off
tick_answer Listening = answers.Done
tick_answer Startup = answers.Done
tick_answer Joining = answers.Done
tick_answer Participating = answers.Done

abbrev pub tick_of : Station → Ticking
tick_of station = record { station = ticked_by station.phase station; answer = tick_answer station.phase }
