-- `members_searching::next_after` meets its contract.
use Rattle.laws.specs.Usual.{◌∙◌}
use Rattle.std.proofs.Common.{lt-ltb, le-ltb}
use Rattle.members_searching.specs.Found.{next_found}
use Rattle.members_searching.proofs.next_after.Goals as goal

pub returns-then-number-ours : goal.returns-then-number-ours
returns-then-number-ours c =
    c.min.ensures ∙ rw (c.unwrap_or.ensures, c.first_listed-larger.ensures, c.from.ensures, next_found, lt-ltb _ _ c.if-number-ours.true)

pub returns-else-number-ours : goal.returns-else-number-ours
returns-else-number-ours c =
    c.unwrap_or-else-number-ours.ensures ∙ rw (c.smallest.ensures, c.first_listed-larger.ensures, c.from.ensures, next_found, le-ltb _ _ c.if-number-ours.false)
