-- `phases_participating::begin` meets its contract.
use Rattle.phases_participating.proofs.begin.Goals as goal

pub returns : goal.returns
returns c = rw (c.taken_if-panel.ensures, c.blank.ensures, c.nothing-gathering.ensures)
