-- `boundary_beginning::fresh` meets its contract.
use Rattle.boundary_beginning.proofs.fresh.Goals as goal

pub returns : goal.returns
returns c = rw (c.blank-panel.ensures, c.nothing-gathering.ensures)
