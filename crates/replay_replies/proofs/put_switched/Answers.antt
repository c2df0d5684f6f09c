-- `replay_replies::put_switched` meets its contract.
use Rattle.replay_replies.specs.Replies.{switched_text}
use borrow.Author.Rules.{rules}
use Rattle.replay_replies.proofs.put_switched.Goals as goal

pub returns-in-Ok : goal.returns-in-Ok
unfolding switched_text
returns-in-Ok c = rw c.in-Ok.is c.put_line.ensures

pub returns-in-Err : goal.returns-in-Err
unfolding switched_text
returns-in-Err c = rw c.in-Err.is c.put_refused.ensures
