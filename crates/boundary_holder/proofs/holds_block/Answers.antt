-- `boundary_holder::holds_block` meets its contract.
use Rattle.boundary_holder.proofs.holds_block.Goals as goal

pub returns : goal.returns
returns c = rw (c.is_in.ensures, c.is_placed.ensures)
