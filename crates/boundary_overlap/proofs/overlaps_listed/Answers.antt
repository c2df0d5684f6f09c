-- `boundary_overlap::overlaps_listed` meets its contract.
use Rattle.boundary_overlap.proofs.overlaps_listed.Goals as goal

pub returns : goal.returns
returns c = c.overlaps_other.ensures
