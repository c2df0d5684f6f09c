-- `replay_reply_octets::digit` meets its contract.
use borrow.Author.Tests.{lt-ltb, le-ltb}
use Rattle.replay_reply_octets.proofs.digit.Goals as goal

pub returns-then-value-lt10 : goal.returns-then-value-lt10
returns-then-value-lt10 c = simp (lt-ltb _ _ c.if-value-lt10.true)

pub returns-else-value-lt10 : goal.returns-else-value-lt10
returns-else-value-lt10 c = simp (le-ltb _ _ c.if-value-lt10.false)
