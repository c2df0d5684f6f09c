use Rattle.settle_counts.specs.Loops.{Carrying}
use Rattle.settle_counts.proofs.carry.Given as goal

abbrev pub invariant-loop-view : goal.invariant-loop-view
invariant-loop-view l =
    Carrying l.moves l.old l.numbers l.view
