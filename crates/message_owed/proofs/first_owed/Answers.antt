-- `message_owed::first_owed` meets its contract.
use Rattle.std.specs.Prelude.{Some}
use Rattle.laws.specs.Usual.{ap}
use Rattle.message_owed.proofs.first_owed.Goals as goal

pub returns-then-is_owing-clause-value : goal.returns-then-is_owing-clause-value
returns-then-is_owing-clause-value c first rest e = ap Some (c.oldest.ensures first rest e)
