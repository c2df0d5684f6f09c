-- `ticking_watch::watch_time` meets its contract.
use Rattle.ticking_watch.proofs.watch_time.Goals as goal

pub returns : goal.returns
returns c = rw (c.watch_time.ensures, c.entry_of-entry.ensures, c.holds-held.ensures)
