use Rattle.std.specs.Prelude.{◌≡◌, ◌+◌, ◌≤◌}
use Rattle.laws.specs.Usual.{drop}
use Rattle.settle_counts.specs.Counts.{above_zero}
use Rattle.settle_counts.proofs.above_zero.Given as goal

abbrev pub invariant-loop-number : goal.invariant-loop-number
invariant-loop-number l =
    (l.total + above_zero (drop l.number-index l.numbers) ≡ above_zero l.numbers) × (l.total ≤ l.number-index)
