-- A tick that only counts is the tick of its station. Assumes nothing.
use Rattle.std.specs.Prelude.{◌≡◌, ◌&&◌, ◌||◌}
use Rattle.laws.specs.Usual.{refl, sym, Bool, true, false, false≢true, not, eqb, leb}
use Rattle.std.proofs.lemmas.Bool.{not-true}
use Rattle.laws.specs.Tests.{first, second, neither_first, neither_second}
use Rattle.members.specs.declared.Members.{Members}
use Rattle.station.specs.Rules.Ticking.{tick_of, later, wait_ends}
use Rattle.station.specs.Rules.Waits.{detection_wait, acceptance_time}
use Rattle.station.specs.declared.Phase.TheVariants.{Off, Listening, Startup, Joining, Participating}
use Rattle.station.specs.declared.Ticked.TheVariants.{Done}
use Rattle.boundary_core.specs.Crossing.{station_of, core_of, is_in, in_phase}
use Rattle.boundary_core.specs.declared.Core.{Core}
use Rattle.boundary_waiting.specs.Waiting.{waited_joining, startup_ends, joining_ends, is_waiting, waited_core}
use Rattle.station.specs.Rules.Answers.{phase_number}
use Rattle.station.specs.declared.Phase.{Phase}
use Rattle.station.specs.declared.Ticked.TheVariants as ticks

-- a phase that is none of the others
others_off : (phase : Phase) → eqb (phase_number phase) 1 ≡ false → eqb (phase_number phase) 2 ≡ false → eqb (phase_number phase) 3 ≡ false
    → eqb (phase_number phase) 4 ≡ false → phase ≡ Off
others_off Off listens starts joins participates = refl
others_off Listening listens starts joins participates = absurd (false≢true (sym listens))
others_off Startup listens starts joins participates = absurd (false≢true (sym starts))
others_off Joining listens starts joins participates = absurd (false≢true (sym joins))
others_off Participating listens starts joins participates = absurd (false≢true (sym participates))

module _ (core : Core) (members : Members) where
  abbrev Counts : Type 0
  Counts = (tick_of (station_of core members) ≡ record { station = station_of (waited_core core) members; answer = Done })
      × (core_of (tick_of (station_of core members)).station ≡ waited_core core)

  in_listening : eqb (phase_number core.phase) 1 ≡ true → Counts
  in_listening e = let one : core.phase ≡ Listening = in_phase Listening core e in (rw one, rw one)

  in_startup : (eqb (phase_number core.phase) 2 && not (startup_ends core)) ≡ true → Counts
  in_startup e =
      let two : core.phase ≡ Startup = in_phase Startup core (first (eqb (phase_number core.phase) 2) (not (startup_ends core)) e) in
      let goes_on = not-true (startup_ends core) (second (eqb (phase_number core.phase) 2) (not (startup_ends core)) e) in
      let time = leb acceptance_time (later acceptance_time core.elapsed).0 in
      let wait = wait_ends core.own.number core.elapsed (later acceptance_time core.elapsed) in
      let time_runs : time ≡ false = neither_first time wait goes_on in
      let wait_runs : wait ≡ false = neither_second time wait goes_on in
      (rw (two, time_runs, wait_runs), rw (two, time_runs, wait_runs))

  in_joining : (eqb (phase_number core.phase) 3 && not (joining_ends core)) ≡ true → Counts
  in_joining e =
      let three : core.phase ≡ Joining = in_phase Joining core (first (eqb (phase_number core.phase) 3) (not (joining_ends core)) e) in
      let goes_on = not-true (joining_ends core) (second (eqb (phase_number core.phase) 3) (not (joining_ends core)) e) in
      let time = leb detection_wait (later detection_wait core.elapsed).0 in
      let wait = wait_ends core.own.number core.waited (waited_joining core) in
      let time_runs : time ≡ false = neither_first time wait goes_on in
      let wait_runs : wait ≡ false = neither_second time wait goes_on in
      (rw (three, time_runs, wait_runs), rw (three, time_runs, wait_runs))

  pub counts : is_waiting core ≡ true → Counts
  counts = by (eqb (phase_number core.phase) 1) (eqb (phase_number core.phase) 2 && not (startup_ends core)) refl refl
    where
      by : (listens starts : Bool) → eqb (phase_number core.phase) 1 ≡ listens → (eqb (phase_number core.phase) 2 && not (startup_ends core)) ≡ starts
          → (listens || (starts || (eqb (phase_number core.phase) 3 && not (joining_ends core)))) ≡ true → Counts
      by true starts l s e = in_listening l
      by false true l s e = in_startup s
      by false false l s e = in_joining e

  -- the tick of an off station changes nothing
  pub stays_off : is_waiting core ≡ false → is_in Startup core ≡ false → is_in Joining core ≡ false → is_in Participating core ≡ false
      → tick_of (station_of core members) ≡ record { station = station_of core members; answer = ticks.Off }
  stays_off ends starts joins participates =
      let listens : eqb (phase_number core.phase) 1 ≡ false =
      neither_first (eqb (phase_number core.phase) 1) ((eqb (phase_number core.phase) 2 && not (startup_ends core)) || (eqb (phase_number core.phase) 3 && not (joining_ends core))) ends in
      rw (others_off core.phase listens starts joins participates)
