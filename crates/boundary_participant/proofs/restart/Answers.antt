-- `boundary_participant::restart` meets its contract.
use Rattle.boundary_participant.proofs.restart.Goals as goal

pub returns : goal.returns
returns c = rw (c.taken_if-panel.ensures, c.takes.ensures, c.place_kept-block.ensures)
