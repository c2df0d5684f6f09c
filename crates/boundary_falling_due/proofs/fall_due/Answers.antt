-- `boundary_falling_due::fall_due` meets its contract.
use Rattle.laws.specs.Usual.{ap}
use Rattle.boundary_falling_due.specs.Due.{owned_core}
use Rattle.boundary_falling_due.proofs.fall_due.Goals as goal

pub returns : goal.returns
returns c = ap (owned_core c.args.core) c.own_due-own.ensures
