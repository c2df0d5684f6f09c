use Rattle.settle_counts.specs.Loops.{Counting}
use Rattle.settle_counts.proofs.count.Given as goal

abbrev pub invariant-loop-view : goal.invariant-loop-view
invariant-loop-view l =
    Counting l.fn.ring.views l.numbers l.view-index
