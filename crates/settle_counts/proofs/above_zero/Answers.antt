-- `settle_counts::above_zero` meets its contract.
use Rattle.laws.specs.Usual.{arith, rules}
use Rattle.settle_counts.proofs.Loops.{above_end, above_none, above_some}
use Rattle.settle_counts.proofs.above_zero.Goals as goal
use Rattle.settle_counts.proofs.above_zero.Goals.{then-number-ne0, else-number-ne0}

pub loop-number-preserved : goal.loop-number-preserved
loop-number-preserved c =
    let numbers = c.args.numbers.now in
    let loop = c.loop-number in
    elim c.if-number-ne0.branch [
      | then-number-ne0 w ↦ rw w.total-is (omega (arith, above_some numbers loop.number-index (search rules) w.if-number-ne0.true, loop.invariant.0), omega (arith, loop.invariant.1))
      | else-number-ne0 w ↦ rw w.total-is (omega (arith, above_none numbers loop.number-index (search rules) w.if-number-ne0.false, loop.invariant.0), omega (arith, loop.invariant.1))
    ]

pub returns : goal.returns
returns c =
    let loop = c.loop-number in
    omega (arith, above_end c.args.numbers.now loop.number-index (omega arith), loop.invariant.0)
