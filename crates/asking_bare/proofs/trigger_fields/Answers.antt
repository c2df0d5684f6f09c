-- `asking_bare::trigger_fields` meets its contract.
use Rattle.asking_bare.proofs.trigger_fields.Goals as goal

pub returns : goal.returns
returns c = rw c.no_areas-areas.ensures
