-- `boundary_silence::missed_entry` meets its contract.
use borrow.Author.Tests.{le-leb, lt-leb}
use Rattle.boundary_silence.proofs.missed_entry.Goals as goal

pub returns-then-entry-ge2 : goal.returns-then-entry-ge2
returns-then-entry-ge2 c = rw (c.no_areas.ensures, le-leb _ _ c.if-entry-ge2.true)

pub returns : goal.returns
returns c = rw (lt-leb _ _ c.if-entry-ge2.false)
