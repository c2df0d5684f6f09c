-- `boundary_entering::request` meets its contract.
use Rattle.laws.specs.Usual.{◌∙◌}
use Rattle.boundary_entering.proofs.request.Goals as goal

pub returns : goal.returns
returns c = record { value = rw c.without-gathering.ensures; misses_after = c.list.ensures ∙ rw c.ours_in-ours.ensures }
