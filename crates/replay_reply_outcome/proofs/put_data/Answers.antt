-- `replay_reply_outcome::put_data` meets its contract.
use borrow.Author.Rules.{rules}
use Rattle.replay_reply_outcome.proofs.put_data.Goals as goal

pub returns-in-Kept : goal.returns-in-Kept
returns-in-Kept c = rw c.in-Kept.is c.put_word.ensures

pub returns-in-Written : goal.returns-in-Written
returns-in-Written c = rw c.in-Written.is c.put_word-in-Written.ensures

pub returns-in-Dropped : goal.returns-in-Dropped
returns-in-Dropped c = rw c.in-Dropped.is c.put_word-in-Dropped.ensures

pub returns-in-Repeat : goal.returns-in-Repeat
returns-in-Repeat c = rw c.in-Repeat.is c.put_word-in-Repeat.ensures
