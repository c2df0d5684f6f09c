-- `phases_participating::show` meets its contract.
use Rattle.phases_participating.proofs.show.Goals as goal

pub returns : goal.returns
returns c = c.figure_in.ensures
