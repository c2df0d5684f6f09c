-- `boundary_figure::ticks_of` meets its contract.
use Rattle.laws.specs.Usual.{sym, ap, ◌∙◌, rules}
use Rattle.boundary_figure.specs.Figures.{ticks_of}
use Rattle.boundary_figure.proofs.ticks_of.Goals as goal

pub returns-in-Gap : goal.returns-in-Gap
returns-in-Gap c = c.gap_ticks.ensures ∙ ap ticks_of (sym c.in-Gap.is)
