-- `boundary_watch::is_quiet` meets its contract.
use Rattle.boundary_watch.proofs.is_quiet.Goals as goal

pub returns : goal.returns
returns c = rw (c.is_in.ensures, c.watch_ends.ensures)
