-- `message_owed::oldest` meets its contract.
use Rattle.laws.specs.Usual.{◌∙◌, arith}
use Rattle.message_owed.specs.Steps.{oldest_first}
use Rattle.message_owed.proofs.oldest.Goals as goal

pub returns : goal.returns
returns c first rest e = c.confirmation_at.ensures ∙ oldest_first c.args.owed.now first rest e
