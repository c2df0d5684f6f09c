-- `message_owed::is_owing` meets its contract.
use Rattle.message_owed.specs.Steps.{owing_told}
use Rattle.message_owed.proofs.is_owing.Goals as goal

pub returns : goal.returns
returns c = owing_told c.args.owed.now
