-- `boundary_many_ticks::count_on` meets its contract.
use Rattle.boundary_many_ticks.proofs.count_on.Goals as goal

pub returns : goal.returns
returns c = rw (c.with_counts.ensures, c.counts_after-counts.ensures, c.counts_in.ensures)
