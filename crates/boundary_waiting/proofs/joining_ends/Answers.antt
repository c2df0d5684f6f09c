-- `boundary_waiting::joining_ends` meets its contract.
use Rattle.boundary_waiting.proofs.joining_ends.Goals as goal

pub returns : goal.returns
returns c = rw (c.wait_ends.ensures, c.waited_then.ensures, c.later-after.ensures, c.detection_wait-time.ensures)
