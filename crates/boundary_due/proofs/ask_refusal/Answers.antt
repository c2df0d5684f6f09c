-- `boundary_due::ask_refusal` meets its contract.
use Rattle.boundary_due.proofs.ask_refusal.Goals as goal

pub returns-then-lent : goal.returns-then-lent
returns-then-lent c = rw c.if-lent.true

pub returns-else-lent : goal.returns-else-lent
returns-else-lent c = rw c.if-lent.false
