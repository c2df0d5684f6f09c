-- `boundary_waiting::is_waiting` meets its contract.
use Rattle.boundary_waiting.proofs.is_waiting.Goals as goal

pub returns : goal.returns
returns c = rw (c.joining_ends.ensures, c.is_in-3.ensures, c.startup_ends.ensures, c.is_in-2.ensures, c.is_in.ensures)
