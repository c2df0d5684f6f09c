-- `falling_due::ours_due` meets its contract.
use Rattle.laws.specs.Usual.{◌∙◌}
use Rattle.falling_due.proofs.ours_due.Goals as goal

pub returns-then-request_fallen : goal.returns-then-request_fallen
returns-then-request_fallen c = rw (← c.request_fallen.ensures, c.if-request_fallen.true)

pub returns-else-request_fallen : goal.returns-else-request_fallen
returns-else-request_fallen c = c.no_areas.ensures ∙ rw (← c.request_fallen.ensures, c.if-request_fallen.false)
