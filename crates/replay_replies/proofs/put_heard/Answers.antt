-- `replay_replies::put_heard` meets its contract.
use Rattle.replay_replies.specs.Replies.{heard_text}
use borrow.Author.Rules.{rules}
use Rattle.replay_replies.proofs.put_heard.Goals as goal

pub returns-in-Off : goal.returns-in-Off
unfolding heard_text
returns-in-Off c = rw c.in-Off.is c.put_line.ensures

pub returns-in-Done : goal.returns-in-Done
unfolding heard_text
returns-in-Done c = rw c.in-Done.is c.put_line-in-Done.ensures

pub returns-in-Cyclic : goal.returns-in-Cyclic
unfolding heard_text
returns-in-Cyclic c = rw c.in-Cyclic.is c.put_token.ensures

pub returns-in-Refused : goal.returns-in-Refused
unfolding heard_text
returns-in-Refused c = rw c.in-Refused.is c.put_refused.ensures
