-- `boundary_reading::panel_in` meets its contract.
use borrow.Author.Rules.{rules}
use Rattle.boundary_reading.proofs.panel_in.Goals as goal

pub returns : goal.returns
returns c = rw c.octet_of.ensures
