-- `falling_due::trigger_due` meets its contract.
use Rattle.falling_due.proofs.trigger_due.Goals as goal

pub returns : goal.returns
returns c = rw c.listening_time-wait.ensures
