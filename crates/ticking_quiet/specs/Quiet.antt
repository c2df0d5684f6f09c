-- How long a host can sleep: the ticks that can come, with no call between, before one brings news.
use Rattle.std.specs.Prelude.{◌≡◌, ◌&&◌, ◌||◌, ◌-◌, ◌<◌}
use Rattle.laws.specs.Usual.{Bool, true, false, cond, not, ℕ, min, eqb, ltb}
use Rattle.members.specs.Members.{entry_of, next_after}
use Rattle.station.specs.Rules.Answers.{phase_number}
use Rattle.station.specs.Rules.Asking.{due_in}
use Rattle.station.specs.Rules.Starting.{trigger_due}
use Rattle.station.specs.Rules.Ticking.{watch_time, tick_of}
use Rattle.station.specs.Rules.Waits.{detection_wait, acceptance_time, number_wait, listening_time, watch_ticks}
use Rattle.station.specs.declared.Phase.{Phase}
use Rattle.station.specs.declared.Phase.TheVariants.{Off, Listening, Startup, Joining, Participating}
use Rattle.station.specs.declared.Station.{Station}
use Rattle.units.specs.declared.Milliseconds.{Milliseconds}
use Rattle.units.specs.declared.Ticks.{Ticks}
use Rattle.ticking_quiet.specs.Many.{after_ticks}

abbrev pub is_due : Station → Bool
is_due station = due_in station.phase station

-- news: another phase, another view, or a frame that was not due before
abbrev pub is_news : Station → Station → Bool
is_news before after =
    not (eqb (phase_number after.phase) (phase_number before.phase))
    || (not (eqb after.view before.view) || (is_due after && not (is_due before)))

-- the next tick brings news
abbrev pub tick_is_news : Station → Bool
tick_is_news station = is_news station (tick_of station).station

-- so many ticks bring no news and the one after them does, or none ever will
pub data Quiet : Type 0 where
  never : Quiet
  till : ℕ → Quiet

-- every watch time, our own and the listed ones, is an octet, as in each state that the code can have
pub record Timed (station : Station) : Type 0 where
  pub own : station.own.watch.0 < 256
  pub listed : (number : ℕ) → (entry_of station.members number).watch.0 < 256

-- what is said by it
abbrev pub Exactly : Station → Quiet → Type 0
Exactly station never = (count : ℕ) → tick_is_news (after_ticks count station) ≡ false
Exactly station (till ticks) =
    ((count : ℕ) → count < ticks → tick_is_news (after_ticks count station) ≡ false)
    × (tick_is_news (after_ticks ticks station) ≡ true)

-- the ticks that come before the one in which a wait ends
abbrev pub before : ℕ → ℕ → ℕ
before wait elapsed = wait - elapsed - 1

-- the same, where the wait for our number may end earlier
abbrev pub before_request : Bool → ℕ → ℕ → ℕ
before_request awaited request ticks = cond awaited (min ticks request) ticks

-- a wait for our number is still to end
abbrev pub runs : ℕ → Ticks → Bool
runs number count = ltb count.0 (number_wait number)

-- the ticks before the next end in each phase, by our number and the time that the watch runs for: our trigger falls due; ring startup ends, or
-- our request falls due before that, unless it is sent; joining ends likewise; the watch ends
abbrev pub left_in : Phase → ℕ → Milliseconds → Bool → ℕ → Ticks → Ticks → ℕ
left_in Off number time sent rounds elapsed waited = 0
left_in Listening number time sent rounds elapsed waited = before (listening_time number) elapsed.0
left_in Startup number time sent rounds elapsed waited =
    before_request (not sent && runs number elapsed) (before (number_wait number) elapsed.0) (before acceptance_time elapsed.0)
left_in Joining number time sent rounds elapsed waited =
    before_request (eqb rounds 3 && runs number waited) (before (number_wait number) waited.0) (before detection_wait elapsed.0)
left_in Participating number time sent rounds elapsed waited = before (watch_ticks time) elapsed.0

abbrev pub left_of : Phase → Station → ℕ
left_of phase station = left_in phase station.own.number (watch_time station) station.sent station.rounds station.elapsed station.waited

-- Each end brings news, but: a trigger that is due stays so, and where we hold and are alone the end of a watch leaves the view as it is.
abbrev pub quiet_in : Phase → ℕ → Station → Quiet
quiet_in Off next station = never
quiet_in Listening next station = cond (trigger_due station) never (till (left_of Listening station))
quiet_in Startup next station = till (left_of Startup station)
quiet_in Joining next station = till (left_of Joining station)
quiet_in Participating next station = cond (eqb next station.view) never (till (left_of Participating station))

-- of the list only the number next after the view matters, and the time listed for the station in view
abbrev pub next_in_view : Station → ℕ
next_in_view station = next_after station.own.number station.members station.view

abbrev pub quiet_of : Station → Quiet
quiet_of station = quiet_in station.phase (next_in_view station) station
