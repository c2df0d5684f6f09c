-- `phases::off` meets its contract.
use Rattle.laws.specs.Usual.{◌∙◌}
use Rattle.phases.proofs.off.Goals as goal

pub returns : goal.returns
returns c = c.fresh.ensures ∙ rw c.no_areas-areas.ensures
