-- A participant's tick that does not end its watch is the tick of its station. Assumes nothing.
use Rattle.std.specs.Prelude.{◌≡◌}
use Rattle.laws.specs.Usual.{ap, ◌∙◌, Bool, true, not, eqb}
use Rattle.std.proofs.lemmas.Bool.{not-true}
use Rattle.boundary_core.specs.Crossing.{station_of, core_of, in_phase}
use Rattle.boundary_core.specs.declared.Core.{Core}
use Rattle.laws.specs.Tests.{first, second}
use Rattle.station.specs.Rules.Ticking.{watch_time, watch_ends, tick_of}
use Rattle.station.specs.Types.{Members}
use Rattle.station.specs.declared.Ticked.TheVariants.{Done}
use Rattle.boundary_watch.specs.Watch.{is_quiet, quiet_after}
use Rattle.station.specs.Rules.Answers.{phase_number}
use Rattle.station.specs.declared.Phase.TheVariants.{Participating}

module _ (core : Core) (members : Members) (quiet : is_quiet core (watch_time (station_of core members)) ≡ true) where
  abbrev ends : Bool
  ends = watch_ends (station_of core members)

  four : core.phase ≡ Participating
  four = in_phase Participating core (first (eqb (phase_number core.phase) 4) (not ends) quiet)

  pub quiet_tick : tick_of (station_of core members) ≡ record { station = station_of (quiet_after core) members; answer = Done }
  quiet_tick = rw (four, not-true ends (second (eqb (phase_number core.phase) 4) (not ends) quiet))

  pub quiet_core : core_of (tick_of (station_of core members)).station ≡ quiet_after core
  quiet_core = ap (λ t. core_of t.station) quiet_tick ∙ rw four
