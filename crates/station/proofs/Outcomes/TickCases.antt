-- The outcomes of a tick, each with what led there and what is left: whatever is proved of a tick goes by these. Assumes nothing.
use Rattle.std.specs.Prelude.{◌≡◌, ◌∷◌}
use Rattle.laws.specs.Usual.{[], refl, Bool, true, false, cond, List, ℕ, eqb, leb}
use Rattle.members.specs.Members.{numbers_of}
use Rattle.panel.specs.Panel.{ticked}
use Rattle.station.specs.Rules.Starting.{started_up}
use Rattle.station.specs.Rules.State.{fresh, counted}
use Rattle.station.specs.Rules.Ticking.{later, falls_due, joining_wait, watch_ended, watch_ends, ticked_by, tick_answer, tick_of}
use Rattle.station.specs.Rules.Waits.{detection_wait, acceptance_time, number_wait, longest_watch}
use Rattle.station.specs.Types.{Phase, Off, Listening, Startup, Joining, Participating, Station}
use Rattle.station.specs.Outcomes.TickCases.{done, TickCases, off, listens, starts, lapses, begins, gives_up, learns, waits, ends, runs}

module _ (station : Station) where
  startup_cases : station.phase ≡ Startup → (ended : Bool) → leb acceptance_time (later acceptance_time station.elapsed).0 ≡ ended → (numbers : List ℕ)
      → TickCases station
      (done
      (cond ended
      (started_up station.own station.members numbers)
      (counted station (falls_due station station.elapsed (later acceptance_time station.elapsed)) (later acceptance_time station.elapsed)
      station.waited station.panel)))
  startup_cases p true t [] = lapses p t
  startup_cases p true t (number ∷ rest) = begins p t
  startup_cases p false t numbers = starts p t

  joining_cases : station.phase ≡ Joining → (ended : Bool) → leb detection_wait (later detection_wait station.elapsed).0 ≡ ended
      → (third : Bool) → eqb station.rounds 3 ≡ third
      → TickCases station
      (done
      (cond ended
      (fresh Listening station.own)
      (joining_wait station (later detection_wait station.elapsed) (cond third (later (number_wait station.own.number) station.waited) station.waited))))
  joining_cases p true t third r = gives_up p t
  joining_cases p false t true r = waits p t r
  joining_cases p false t false r = learns p t r

  participant_cases : station.phase ≡ Participating → (ended : Bool) → watch_ends station ≡ ended
      → TickCases station
      (done
      (cond ended
      (watch_ended station)
      (counted station station.own (later longest_watch station.elapsed) station.waited (ticked station.panel))))
  participant_cases p true t = ends p t
  participant_cases p false t = runs p t

  pub tick_cases : TickCases station (tick_of station)
  tick_cases = by station.phase refl
    where
      by : (phase : Phase) → station.phase ≡ phase → TickCases station (record { station = ticked_by phase station; answer = tick_answer phase })
      by Off p = off p
      by Listening p = listens p
      by Startup p = startup_cases p (leb acceptance_time (later acceptance_time station.elapsed).0) refl (numbers_of station.members)
      by Joining p = joining_cases p (leb detection_wait (later detection_wait station.elapsed).0) refl (eqb station.rounds 3) refl
      by Participating p = participant_cases p (watch_ends station) refl
