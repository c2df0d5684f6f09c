-- `boundary_refused::is_strange` meets its contract.
use Rattle.boundary_refused.proofs.is_strange.Goals as goal

pub returns : goal.returns
returns c = rw (c.is_in.ensures, c.is_token.ensures, c.is_cyclic.ensures)
