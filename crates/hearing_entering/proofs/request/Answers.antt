-- `hearing_entering::request` meets its contract.
use Rattle.laws.specs.Usual.{◌∙◌}
use Rattle.hearing_entering.proofs.request.Goals as goal

pub returns : goal.returns
returns c = c.relist.ensures ∙ rw (c.without.ensures, c.list-listed.ensures, c.ours_due-ours.ensures)
