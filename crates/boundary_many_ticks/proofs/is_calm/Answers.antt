-- `boundary_many_ticks::is_calm` meets its contract.
use Rattle.boundary_many_ticks.proofs.is_calm.Goals as goal

pub returns : goal.returns
returns c = rw c.calm_in-calm.ensures
