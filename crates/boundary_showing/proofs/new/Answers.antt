-- `boundary_showing::new` meets its contract.
use Rattle.boundary_showing.proofs.new.Goals as goal

pub returns : goal.returns
returns c = c.turn_off.ensures
