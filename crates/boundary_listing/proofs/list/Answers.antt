-- `boundary_listing::list` meets its contract.
use Rattle.laws.specs.Usual.{◌∙◌, rules}
use Rattle.boundary_listing.proofs.list.Goals as goal

pub returns : goal.returns
returns c = c.put.ensures ∙ rw c.listed_areas.ensures
