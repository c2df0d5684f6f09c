-- `phases::fresh` meets its contract.
use Rattle.phases.proofs.fresh.Goals as goal

pub returns : goal.returns
returns c = rw (c.blank-panel.ensures, c.nothing-gathering.ensures, c.no_members-members.ensures)
