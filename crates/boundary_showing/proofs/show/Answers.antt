-- `boundary_showing::show` meets its contract.
use Rattle.boundary_showing.proofs.show.Goals as goal

pub returns : goal.returns
returns c = rw (c.figure_shown.ensures, c.figure_in.ensures)
