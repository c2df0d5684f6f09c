-- `boundary_refused::is_taken` meets its contract.
use Rattle.boundary_refused.proofs.is_taken.Goals as goal

pub returns : goal.returns
returns c = rw c.is_off.ensures
