-- `boundary_entering::learn` meets its contract.
use Rattle.laws.specs.Usual.{◌∙◌}
use borrow.Author.Tests.{lt-ltb, le-ltb}
use Rattle.boundary_entering.proofs.learn.Goals as goal

pub returns-then-rounds-lt3 : goal.returns-then-rounds-lt3
returns-then-rounds-lt3 c = c.list.ensures ∙ rw (c.no_areas.ensures, lt-ltb _ _ c.if-rounds-lt3.true)

pub returns-else-rounds-lt3 : goal.returns-else-rounds-lt3
returns-else-rounds-lt3 c = rw (le-ltb _ _ c.if-rounds-lt3.false)
