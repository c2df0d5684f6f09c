-- A core whose settings change when our request falls due.
use Rattle.boundary_core.specs.declared.Core.{Core}
use Rattle.station.specs.declared.Settings.{Settings}

-- a core with other settings
abbrev pub owned_core : Core → Settings → Core
owned_core core own = record {
  phase = core.phase;
  own = own;
  elapsed = core.elapsed;
  waited = core.waited;
  rounds = core.rounds;
  sent = core.sent;
  view = core.view;
  block = core.block;
  gathering = core.gathering;
  panel = core.panel;
}
