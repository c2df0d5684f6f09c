-- A tick that only counts, of a participant or of a station that does not participate yet. Assumes nothing.
use Rattle.std.specs.Prelude.{◌≡◌, ◌||◌}
use Rattle.laws.specs.Usual.{sym, ap, Bool, true, false, cond}
use Rattle.boundary_answers.specs.Numbers.{ticked_answer}
use Rattle.boundary_core.specs.Crossing.{station_of, core_of}
use Rattle.boundary_core.specs.declared.Core.{Core}
use Rattle.boundary_watch.specs.Watch.{is_quiet, quiet_after}
use Rattle.boundary_watch.proofs.Watch.{quiet_tick, quiet_core}
use Rattle.boundary_waiting.proofs.Ticks.{counts}
use Rattle.boundary_waiting.specs.Waiting.{is_waiting, waited_core}
use Rattle.station.specs.Rules.Ticking.{Ticking, watch_time, tick_of}
use Rattle.station.specs.Types.{Milliseconds, Members}
use Rattle.station.specs.declared.Ticked.TheVariants.{Done}

-- by the time that the watch runs for
abbrev pub only_counts : Core → Milliseconds → Bool
only_counts core time = is_quiet core time || is_waiting core

abbrev pub counted_core : Core → Milliseconds → Core
counted_core core time = cond (is_quiet core time) (quiet_after core) (waited_core core)

module _ (core : Core) (members : Members) where
  -- what such a tick leaves and is answered
  abbrev Counted : Core → Type 0
  Counted after =
      (after ≡ core_of (tick_of (station_of core members)).station)
      × ((ticked_answer Done ≡ ticked_answer (tick_of (station_of core members)).answer) × (members ≡ (tick_of (station_of core members)).station.members))

  pub counted : {time : Milliseconds} → time ≡ watch_time (station_of core members) → only_counts core time ≡ true → Counted (counted_core core time)
  counted {time} timed = by (is_quiet core time) (ap (is_quiet core) (sym timed))
    where
      by : (quiet : Bool) → is_quiet core (watch_time (station_of core members)) ≡ quiet → (quiet || is_waiting core) ≡ true → Counted (cond quiet (quiet_after core) (waited_core core))
      by true still e =
          let law = quiet_tick core members still in
          (sym (quiet_core core members still), (sym (ap (λ (t : Ticking). ticked_answer t.answer) law), sym (ap (λ (t : Ticking). t.station.members) law)))
      by false ends e =
          let law = counts core members e in
          (sym law.1, (sym (ap (λ (t : Ticking). ticked_answer t.answer) law.0), sym (ap (λ (t : Ticking). t.station.members) law.0)))
