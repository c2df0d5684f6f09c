-- `hearing_entering::begin_joining` meets its contract.
use Rattle.laws.specs.Usual.{◌∙◌}
use Rattle.hearing_entering.proofs.begin_joining.Goals as goal

pub returns : goal.returns
returns c = c.join.ensures ∙ rw c.fresh.ensures
