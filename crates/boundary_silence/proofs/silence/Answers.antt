-- `boundary_silence::silence` meets its contract.
use Rattle.laws.specs.Usual.{◌∙◌}
use Rattle.boundary_silence.proofs.silence.Goals as goal

pub returns : goal.returns
returns c = c.restart.ensures ∙ rw (c.left-gathering.ensures, c.tick-panel.ensures)
