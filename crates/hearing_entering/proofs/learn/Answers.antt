-- `hearing_entering::learn` meets its contract.
use Rattle.laws.specs.Usual.{◌∙◌}
use borrow.Author.Tests.{lt-ltb, le-ltb}
use Rattle.hearing_entering.proofs.learn.Goals as goal

pub returns-then-station-lt3 : goal.returns-then-station-lt3
returns-then-station-lt3 c = c.list.ensures ∙ rw (c.no_areas.ensures, lt-ltb _ _ c.if-station-lt3.true)

pub returns-else-station-lt3 : goal.returns-else-station-lt3
returns-else-station-lt3 c = rw (le-ltb _ _ c.if-station-lt3.false)
