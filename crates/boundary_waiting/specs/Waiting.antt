-- The ticks of a station that does not participate yet, on its core: those that only count, which are all but the ones that end a wait.
use Rattle.std.specs.Prelude.{◌&&◌, ◌||◌}
use Rattle.laws.specs.Usual.{Bool, cond, not, ℕ, leb}
use Rattle.station.specs.Rules.Ticking.{later, wait_ends, waited_then}
use Rattle.station.specs.Rules.Waits.{detection_wait, acceptance_time, listening_time}
use Rattle.units.specs.declared.Ticks.{Ticks}
use Rattle.station.specs.declared.Phase.{Phase}
use Rattle.station.specs.declared.Phase.TheVariants.{Off, Listening, Startup, Joining, Participating}
use Rattle.boundary_core.specs.Crossing.{is_in}
use Rattle.boundary_core.specs.declared.Core.{Core}

-- what the phase's ticks are counted up to
abbrev pub limit_of : Phase → ℕ → ℕ
limit_of Off number = detection_wait
limit_of Listening number = listening_time number
limit_of Startup number = acceptance_time
limit_of Joining number = detection_wait
limit_of Participating number = detection_wait

-- the wait for our number in joining, after the next tick
abbrev pub waited_joining : Core → Ticks
waited_joining core = waited_then core.own.number core.rounds core.waited

-- in ring startup and in joining, what ends with the next tick
abbrev pub startup_ends : Core → Bool
startup_ends core = leb acceptance_time (later acceptance_time core.elapsed).0 || wait_ends core.own.number core.elapsed (later acceptance_time core.elapsed)

abbrev pub joining_ends : Core → Bool
joining_ends core = leb detection_wait (later detection_wait core.elapsed).0 || wait_ends core.own.number core.waited (waited_joining core)

-- the next tick only counts
abbrev pub is_waiting : Core → Bool
is_waiting core = is_in Listening core || ((is_in Startup core && not (startup_ends core)) || (is_in Joining core && not (joining_ends core)))

-- the core after it
abbrev pub waited_core : Core → Core
waited_core core = record {
  phase = core.phase;
  own = core.own;
  elapsed = later (limit_of core.phase core.own.number) core.elapsed;
  waited = cond (is_in Joining core) (waited_joining core) core.waited;
  rounds = core.rounds;
  sent = core.sent;
  view = core.view;
  block = core.block;
  gathering = core.gathering;
  panel = core.panel;
}
