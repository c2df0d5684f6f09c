-- `boundary_entering::join` meets its contract.
use Rattle.boundary_entering.proofs.join.Goals as goal

pub returns : goal.returns
returns c = rw (c.elapsed_after-elapsed.ensures, c.rounds_after-rounds.ensures, c.destination_after-view.ensures)
