-- `message_answers::handed_over` meets its contract.
use Rattle.laws.specs.Usual.{refl, rules}
use Rattle.message_answers.proofs.handed_over.Goals as goal

pub returns : goal.returns
returns c = λ octets. refl
