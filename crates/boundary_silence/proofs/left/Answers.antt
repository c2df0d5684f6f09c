-- `boundary_silence::left` meets its contract.
use Rattle.laws.specs.Usual.{◌∙◌}
use Rattle.boundary_silence.proofs.left.Goals as goal

pub returns-then-entry : goal.returns-then-entry
returns-then-entry c = c.without.ensures ∙ rw c.if-entry.true

pub returns-else-entry : goal.returns-else-entry
returns-else-entry c = rw c.if-entry.false
