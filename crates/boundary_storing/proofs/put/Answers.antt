-- `boundary_storing::put` meets its contract.
use Rattle.laws.specs.Usual.{arith}
use Rattle.boundary_storing.proofs.put.Goals as goal

pub store-requires : goal.store-requires
store-requires c = omega arith

pub returns : goal.returns
returns c = c.store.ensures
