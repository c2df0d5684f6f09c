use Rattle.settle_moves.specs.Silent.{Placed}
use Rattle.settle_next.proofs.silence_moves.Given as goal

abbrev pub invariant-loop-view : goal.invariant-loop-view
invariant-loop-view l =
    Placed l.views l.moves l.above l.view
