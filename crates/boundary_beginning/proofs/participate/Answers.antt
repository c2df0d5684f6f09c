-- `boundary_beginning::participate` meets its contract.
use Rattle.boundary_beginning.proofs.participate.Goals as goal

pub returns : goal.returns
returns c = rw (c.taken_if-panel.ensures, c.blank.ensures, c.nothing-gathering.ensures)
