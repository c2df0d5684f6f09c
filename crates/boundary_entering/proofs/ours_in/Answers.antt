-- `boundary_entering::ours_in` meets its contract.
use Rattle.laws.specs.Usual.{◌∙◌}
use Rattle.boundary_entering.proofs.ours_in.Goals as goal

pub returns-then-has_fallen : goal.returns-then-has_fallen
returns-then-has_fallen c = rw (← c.has_fallen.ensures, c.if-has_fallen.true)

pub returns-else-has_fallen : goal.returns-else-has_fallen
returns-else-has_fallen c = c.no_areas.ensures ∙ rw (← c.has_fallen.ensures, c.if-has_fallen.false)
