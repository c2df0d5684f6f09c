-- `boundary_lists::clear` meets its contract.
use Rattle.laws.specs.Usual.{refl, arith}
use Rattle.boundary_lists.proofs.clear.Goals as goal

pub bounds-misses-number : goal.bounds-misses-number
bounds-misses-number c = omega arith

pub returns : goal.returns
returns c = refl
