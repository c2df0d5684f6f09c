-- `boundary_participant::is_accepted` meets its contract.
use Rattle.boundary_participant.proofs.is_accepted.Goals as goal

pub returns : goal.returns
returns c = rw (c.is_in.ensures, c.is_token.ensures, c.is_cyclic.ensures)
