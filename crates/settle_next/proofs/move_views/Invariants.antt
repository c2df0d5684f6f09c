use Rattle.std.specs.Prelude.{◌≡◌, ◌++◌}
use Rattle.laws.specs.Usual.{map, take, drop}
use Rattle.settling.specs.Ring.{silence}
use Rattle.settle_views.specs.Views.{stations_from}
use Rattle.settle_moves.specs.Moves.{view_after}
use Rattle.settle_next.proofs.move_views.Given as goal

abbrev pub invariant-loop-view : goal.invariant-loop-view
invariant-loop-view l =
    l.view-items ≡ map (view_after (stations_from 0 l.fn.views) silence) (take l.view-index l.fn.views) ++ drop l.view-index l.fn.views
