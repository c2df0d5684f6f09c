-- `ticking_jump::jump` meets its contract.
use Rattle.laws.specs.Usual.{arith, ltb}
use borrow.Author.Tests.{ltb-true}
use Rattle.laws.specs.Tests.{second}
use Rattle.ticking_jump.proofs.jump.Goals as goal

pub go_round-requires : goal.go_round-requires
go_round-requires c =
    let a = c.args in
    let watch = c.watch_ticks-watch in
    omega (arith, watch.ensures, ltb-true a.counts.elapsed.0 watch.result.0 (second a.alone (ltb a.counts.elapsed.0 watch.result.0) c.if-alone-elapsed.true))

pub returns-then-alone-elapsed : goal.returns-then-alone-elapsed
returns-then-alone-elapsed c = rw (c.go_round.ensures, ← c.watch_ticks-watch.ensures, c.if-alone-elapsed.true)

pub returns : goal.returns
returns c = rw (← c.watch_ticks-watch.ensures, c.if-alone-elapsed.false) c.skip.ensures
