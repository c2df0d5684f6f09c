-- `phases::stopped` meets its contract.
use Rattle.phases.proofs.stopped.Goals as goal

pub returns : goal.returns
returns c = c.off.ensures
