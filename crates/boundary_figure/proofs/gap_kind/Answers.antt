-- `boundary_figure::gap_kind` meets its contract.
use Rattle.laws.specs.Usual.{sym, ◌∙◌}
use Rattle.boundary_figure.proofs.gap_kind.Goals as goal

pub returns-then-is_over : goal.returns-then-is_over
returns-then-is_over c = rw (sym c.is_over.ensures ∙ c.if-is_over.true)

pub returns-else-is_over : goal.returns-else-is_over
returns-else-is_over c = rw (sym c.is_over.ensures ∙ c.if-is_over.false)
