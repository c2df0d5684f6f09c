-- `asking_bare::request_fields` meets its contract.
use Rattle.laws.specs.Usual.{refl}
use Rattle.asking_bare.proofs.request_fields.Goals as goal

pub returns : goal.returns
returns c = refl
