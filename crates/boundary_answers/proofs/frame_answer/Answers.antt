-- `boundary_answers::frame_answer` meets its contract.
use Rattle.laws.specs.Usual.{refl}
use Rattle.boundary_answers.proofs.frame_answer.Goals as goal

pub returns : goal.returns
returns c = refl
