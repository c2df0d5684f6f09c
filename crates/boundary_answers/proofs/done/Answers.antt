-- `boundary_answers::done` meets its contract.
use Rattle.laws.specs.Usual.{refl}
use Rattle.boundary_answers.proofs.done.Goals as goal

pub returns : goal.returns
returns c = refl
