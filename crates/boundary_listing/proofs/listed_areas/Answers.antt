-- `boundary_listing::listed_areas` meets its contract.
use Rattle.laws.specs.Usual.{◌∙◌}
use Rattle.boundary_listing.proofs.listed_areas.Goals as goal

pub returns-then-overlaps_other-areas_overlap : goal.returns-then-overlaps_other-areas_overlap
returns-then-overlaps_other-areas_overlap c = c.bare.ensures ∙ rw (← c.overlaps_other.ensures, ← c.areas_overlap.ensures, c.if-overlaps_other-areas_overlap.true)

pub returns-else-overlaps_other-areas_overlap : goal.returns-else-overlaps_other-areas_overlap
returns-else-overlaps_other-areas_overlap c = rw (← c.overlaps_other.ensures, ← c.areas_overlap.ensures, c.if-overlaps_other-areas_overlap.false)
