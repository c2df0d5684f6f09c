-- `boundary_figure::figure_shown` meets its contract.
use Rattle.boundary_figure.proofs.figure_shown.Goals as goal

pub returns : goal.returns
returns c = rw (c.ticks_of.ensures, c.kind_of.ensures, c.text_of-text.ensures)
