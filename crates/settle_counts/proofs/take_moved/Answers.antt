-- `settle_counts::take_moved` meets its contract.
use Rattle.std.specs.Prelude.{◌≡◌}
use Rattle.laws.specs.Usual.{arith}
use Rattle.settle_counts.proofs.Loops.{taking_none, taking_all}
use Rattle.settle_counts.proofs.take_moved.Goals as goal

pub loop-view-init : goal.loop-view-init
loop-view-init c = taking_none _ _ _ c.requires

pub returns : goal.returns
returns c =
    let loop = c.loop-view in
    let end : loop.view ≡ 256 = omega arith in
    let all = taking_all c.requires end loop.invariant in
    record { value = all.0; numbers_after = all.1; upper_bound = omega (arith, loop.invariant.few) }
