-- `boundary_figure::kind_of` meets its contract.
use Rattle.laws.specs.Usual.{sym, ap, ◌∙◌, rules}
use Rattle.boundary_figure.specs.Figures.{kind_of}
use Rattle.boundary_figure.proofs.kind_of.Goals as goal

pub returns-in-Gap : goal.returns-in-Gap
returns-in-Gap c = c.gap_kind.ensures ∙ ap kind_of (sym c.in-Gap.is)
