-- `boundary_cyclic::cyclic` meets its contract.
use Rattle.boundary_cyclic.proofs.cyclic.Goals as goal

pub returns : goal.returns
returns c = rw (c.data_number.ensures, c.token_number.ensures, c.data_of-outcome.ensures)
