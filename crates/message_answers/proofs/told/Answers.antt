-- `message_answers::told` meets its contract.
use Rattle.laws.specs.Usual.{refl}
use Rattle.message_answers.proofs.told.Goals as goal

pub returns : goal.returns
returns c = refl
