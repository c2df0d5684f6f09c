use Rattle.std.specs.Prelude.{◌≡◌}
use Rattle.boundary_core.specs.Crossing.{station_in}
use Rattle.ticking_quiet.specs.Many.{after_ticks}
use Rattle.boundary_many_ticks.proofs.ticks.Given as goal

abbrev pub invariant-loop-listed : goal.invariant-loop-listed
invariant-loop-listed l =
    after_ticks l.left (station_in l.after l.listed l.areas l.watch l.misses) ≡ after_ticks l.count (station_in l.core l.initial.listed l.initial.areas l.initial.watch l.initial.misses)

abbrev pub decreases-loop-listed : goal.decreases-loop-listed
decreases-loop-listed l =
    l.left
