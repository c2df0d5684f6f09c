-- `boundary_overlap::overlaps_entry` meets its contract.
use Rattle.laws.specs.Usual.{◌∙◌}
use Rattle.boundary_overlap.proofs.overlaps_entry.Goals as goal

pub returns-then-entry-other : goal.returns-then-entry-other
returns-then-entry-other c = c.areas_overlap.ensures ∙ rw c.if-entry-other.true

pub returns : goal.returns
returns c = rw c.if-entry-other.false
