-- `boundary_lists::is_listed` meets its contract.
use Rattle.laws.specs.Usual.{refl, arith}
use Rattle.boundary_lists.proofs.is_listed.Goals as goal

pub bounds-listed-number : goal.bounds-listed-number
bounds-listed-number c = omega arith

pub returns : goal.returns
returns c = refl
