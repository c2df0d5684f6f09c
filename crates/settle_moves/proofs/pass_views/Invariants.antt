use Rattle.std.specs.Prelude.{◌≡◌, ◌++◌}
use Rattle.laws.specs.Usual.{map, take, drop}
use Rattle.settle_moves.specs.Moves.{passed_view}
use Rattle.settle_moves.proofs.pass_views.Given as goal

abbrev pub invariant-loop-view : goal.invariant-loop-view
invariant-loop-view l =
    l.view-items ≡ map (λ view. passed_view view l.from l.to) (take l.view-index l.fn.views) ++ drop l.view-index l.fn.views
