-- `boundary_waiting::startup_ends` meets its contract.
use Rattle.boundary_waiting.proofs.startup_ends.Goals as goal

pub returns : goal.returns
returns c = rw (c.wait_ends.ensures, c.later-after.ensures, c.acceptance_time-time.ensures)
