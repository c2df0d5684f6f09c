-- `boundary_many_ticks::is_alone` meets its contract.
use Rattle.boundary_many_ticks.proofs.is_alone.Goals as goal

pub returns-then-not-is_participating-core : goal.returns-then-not-is_participating-core
returns-then-not-is_participating-core c =
    let core = c.args.core in
    rw (← c.is_participating.ensures, c.if-not-is_participating-core.true)

pub returns : goal.returns
returns c =
    let core = c.args.core in
    rw (c.is_listed.ensures, c.next_after-next.ensures, ← c.is_participating.ensures, c.if-not-is_participating-core.false)
