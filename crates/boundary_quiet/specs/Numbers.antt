-- The quiet ticks as they cross to C.
use Rattle.std.specs.Prelude.{◌≡◌}
use Rattle.laws.specs.Usual.{Bool, true, false, List, ℕ}
use Rattle.boundary_core.specs.Crossing.{station_in}
use Rattle.boundary_core.specs.declared.Core.{Core}
use Rattle.boundary_lists.specs.Laws.{next_in_lem}
use Rattle.boundary_lists.specs.Lists.{next_in}
use Rattle.station.specs.declared.Phase.{Phase}
use Rattle.boundary_quiet.specs.declared.Quiet.{Quiet}
use Rattle.ticking_quiet.specs.Quiet as quiet

-- where no tick ever brings news, the number is 0
abbrev pub quiet_numbers : quiet.Quiet → Quiet
quiet_numbers quiet.never = record { ends = false; ticks = 0 }
quiet_numbers (quiet.till ticks) = record { ends = true; ticks = ticks }

-- the phase, and of the list the number next after the view by the flags, tell it
module _ (core : Core) (listed : List Bool) (areas watch misses : List ℕ) where
  pub quiet_by : (phase : Phase) → core.phase ≡ phase
      → quiet_numbers (quiet.quiet_in phase (next_in core.own.number listed core.view) (station_in core listed areas watch misses))
      ≡ quiet_numbers (quiet.quiet_of (station_in core listed areas watch misses))
  quiet_by phase p = rw (p, next_in_lem listed areas watch misses core.own.number core.view)
