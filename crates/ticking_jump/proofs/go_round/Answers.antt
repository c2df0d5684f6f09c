-- `ticking_jump::go_round` meets its contract.
use Rattle.std.specs.Prelude.{◌+◌, ◌<◌}
use Rattle.laws.specs.Usual.{arith, rules}
use native.Mathlib.Nat.{mod-lt}
use Rattle.ticking_jump.proofs.go_round.Goals as goal

pub overflow_cast-elapsed : goal.overflow_cast-elapsed
overflow_cast-elapsed c =
    let a = c.args in
    let watch = c.watch_ticks-watch in
    let some : 0 < watch.result.0 = omega (arith, watch.ensures, c.requires) in
    omega (arith, mod-lt (a.counts.elapsed.0 + a.count) some)

pub returns : goal.returns
returns c = rw (c.counts_after-after.ensures, c.watch_ticks-watch.ensures)
