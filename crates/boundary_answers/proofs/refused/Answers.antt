-- `boundary_answers::refused` meets its contract.
use Rattle.boundary_answers.proofs.refused.Goals as goal

pub returns : goal.returns
returns c = rw c.number_of.ensures
