-- `ticking_jump::skip` meets its contract.
use Rattle.laws.specs.Usual.{arith}
use Rattle.ticking_calm.specs.CalmTicks.{calm_few}
use Rattle.ticking_jump.proofs.skip.Goals as goal

pub overflow_sub-ticks : goal.overflow_sub-ticks
overflow_sub-ticks c =
    let a = c.args in
    omega (arith, c.calm_in-calm.ensures, calm_few a.phase a.number a.time a.rounds a.counts.elapsed a.counts.waited a.count)

pub returns : goal.returns
returns c = rw (c.counts_after-after.ensures, c.calm_in-calm.ensures)
