-- `boundary_quiet::unless` meets its contract.
use Rattle.boundary_quiet.proofs.unless.Goals as goal

pub returns-then-stays : goal.returns-then-stays
returns-then-stays c = rw c.if-stays.true

pub returns : goal.returns
returns c = rw c.if-stays.false
