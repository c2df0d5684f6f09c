-- `boundary_waiting::count` meets its contract.
use Rattle.boundary_waiting.proofs.count.Goals as goal

pub returns : goal.returns
returns c = rw (c.waited_by-waited.ensures, c.later-elapsed.ensures, c.limit.ensures)
