use Rattle.settle_counts.specs.Loops.{Taking}
use Rattle.settle_counts.proofs.take_moved.Given as goal

abbrev pub invariant-loop-view : goal.invariant-loop-view
invariant-loop-view l =
    Taking l.from l.to l.fn.numbers l.numbers l.moved l.view
