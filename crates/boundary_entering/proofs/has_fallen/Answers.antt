-- `boundary_entering::has_fallen` meets its contract.
use Rattle.boundary_entering.proofs.has_fallen.Goals as goal

pub returns-in-Off : goal.returns-in-Off
returns-in-Off c = rw (c.in-Off.is)

pub returns-in-Listening : goal.returns-in-Listening
returns-in-Listening c = rw (c.in-Listening.is)

pub returns-in-Startup : goal.returns-in-Startup
returns-in-Startup c = rw (c.in-Startup.is, c.number_wait-wait.ensures)

pub returns-in-Joining : goal.returns-in-Joining
returns-in-Joining c = rw (c.in-Joining.is, c.number_wait-wait.ensures)

pub returns-in-Participating : goal.returns-in-Participating
returns-in-Participating c = rw (c.in-Participating.is)
