-- `boundary_inspecting::show` meets its contract.
use Rattle.laws.specs.Usual.{ap, ◌∙◌}
use Rattle.boundary_core.specs.Crossing.{figure_in}
use Rattle.boundary_core.specs.declared.Core.{Core}
use Rattle.boundary_figure.specs.Figures.{figure_numbers}
use Rattle.boundary_inspecting.proofs.show.Goals as goal

pub returns : goal.returns
returns c = c.show.ensures ∙ ap (λ (k : Core). figure_numbers (figure_in k)) c.core_in.ensures.value
