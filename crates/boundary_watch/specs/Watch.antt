-- A participant's tick that does not end its watch, on its core.
use Rattle.std.specs.Prelude.{◌&&◌, ◌+◌}
use Rattle.laws.specs.Usual.{Bool, not, leb}
use Rattle.boundary_core.specs.Crossing.{is_in}
use Rattle.boundary_core.specs.declared.Core.{Core}
use Rattle.panel.specs.Panel.{ticked}
use Rattle.station.specs.Rules.Ticking.{later}
use Rattle.station.specs.Rules.Waits.{watch_ticks, longest_watch}
use Rattle.station.specs.Types.{Milliseconds}
use Rattle.station.specs.declared.Phase.TheVariants.{Participating}

-- a participant whose next tick does not end its watch, which runs for a time
abbrev pub is_quiet : Core → Milliseconds → Bool
is_quiet core time = is_in Participating core && not (leb (watch_ticks time) (core.elapsed.0 + 1))

-- its tick
abbrev pub quiet_after : Core → Core
quiet_after core = record {
  phase = core.phase;
  own = core.own;
  elapsed = later longest_watch core.elapsed;
  waited = core.waited;
  rounds = core.rounds;
  sent = core.sent;
  view = core.view;
  block = core.block;
  gathering = core.gathering;
  panel = ticked core.panel;
}
