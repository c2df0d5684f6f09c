-- `hearing_entering::join` meets its contract.
use Rattle.hearing_entering.proofs.join.Goals as goal

pub returns : goal.returns
returns c = rw (c.learn-members.ensures, c.elapsed_after-elapsed.ensures, c.rounds_after-rounds.ensures, c.destination_after-view.ensures)
