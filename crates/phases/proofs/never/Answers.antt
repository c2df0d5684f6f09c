-- `phases::never` meets its contract.
use Rattle.phases.proofs.never.Goals as goal

pub returns : goal.returns
returns c = c.off.ensures
