-- `replay_reply_words::put_ticked` meets its contract.
use Rattle.replay_reply_words.specs.Answers.{ticked_text}
use borrow.Author.Rules.{rules}
use Rattle.replay_reply_words.proofs.put_ticked.Goals as goal

pub returns-in-Off : goal.returns-in-Off
unfolding ticked_text
returns-in-Off c = rw c.in-Off.is c.put_line.ensures

pub returns-in-Done : goal.returns-in-Done
unfolding ticked_text
returns-in-Done c = rw c.in-Done.is c.put_line-in-Done.ensures
