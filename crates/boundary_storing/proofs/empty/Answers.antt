-- `boundary_storing::empty` meets its contract.
use Rattle.boundary_storing.specs.Storing.{none_in}
use Rattle.boundary_storing.proofs.empty.Goals as goal

pub returns : goal.returns
returns c = none_in
