-- `boundary_falling_due::own_due` meets its contract.
use Rattle.boundary_falling_due.proofs.own_due.Goals as goal

pub returns-then-overlaps_listed : goal.returns-then-overlaps_listed
returns-then-overlaps_listed c = rw (c.bare-areas.ensures, ← c.overlaps_listed.ensures, c.if-overlaps_listed.true)

pub returns : goal.returns
returns c = rw (← c.overlaps_listed.ensures, c.if-overlaps_listed.false)
