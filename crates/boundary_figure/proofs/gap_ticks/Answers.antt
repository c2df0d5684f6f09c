-- `boundary_figure::gap_ticks` meets its contract.
use Rattle.laws.specs.Usual.{sym, ◌∙◌, arith}
use borrow.Author.Tests.{ltb-false}
use Rattle.boundary_figure.proofs.gap_ticks.Goals as goal

pub overflow_cast-result : goal.overflow_cast-result
overflow_cast-result c = omega (arith, ltb-false 65535 c.args.gap.0 (sym c.is_over.ensures ∙ c.if-is_over.false))

pub returns-then-is_over : goal.returns-then-is_over
returns-then-is_over c = rw (sym c.is_over.ensures ∙ c.if-is_over.true)

pub returns-else-is_over : goal.returns-else-is_over
returns-else-is_over c = rw (sym c.is_over.ensures ∙ c.if-is_over.false)
