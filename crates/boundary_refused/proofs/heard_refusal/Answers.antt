-- `boundary_refused::heard_refusal` meets its contract.
use Rattle.boundary_refused.proofs.heard_refusal.Goals as goal

pub returns-then-lent : goal.returns-then-lent
returns-then-lent c = rw c.if-lent.true

pub returns-else-lent : goal.returns-else-lent
returns-else-lent c = rw c.if-lent.false
