-- `boundary_reading::gathering_in` meets its contract.
use borrow.Author.Rules.{rules}
use Rattle.boundary_reading.proofs.gathering_in.Goals as goal

pub returns : goal.returns
returns c = rw (c.octet_of-2.ensures, c.octet_of.ensures)
