-- `boundary_watch::quiet` meets its contract.
use Rattle.boundary_watch.proofs.quiet.Goals as goal

pub returns : goal.returns
returns c = rw (c.tick-panel.ensures, c.later-elapsed.ensures, c.longest_watch.ensures)
