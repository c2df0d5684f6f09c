-- `phases_participating::figure_in` meets its contract.
use Rattle.laws.specs.Usual.{◌∙◌}
use Rattle.phases_participating.proofs.figure_in.Goals as goal

pub returns-then-is_participating : goal.returns-then-is_participating
returns-then-is_participating c = c.figure_of.ensures ∙ rw (← c.is_participating.ensures, c.if-is_participating.true)

pub returns-else-is_participating : goal.returns-else-is_participating
returns-else-is_participating c = rw (← c.is_participating.ensures, c.if-is_participating.false)
