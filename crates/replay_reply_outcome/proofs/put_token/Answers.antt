-- `replay_reply_outcome::put_token` meets its contract.
use borrow.Author.Rules.{rules}
use Rattle.replay_reply_outcome.proofs.put_token.Goals as goal

pub returns-in-None : goal.returns-in-None
returns-in-None c = rw c.in-None.is c.put_outcome.ensures

pub returns-in-PassedOn : goal.returns-in-PassedOn
returns-in-PassedOn c = rw c.in-PassedOn.is c.put_outcome-in-PassedOn.ensures

pub returns-in-OursNow : goal.returns-in-OursNow
returns-in-OursNow c = rw c.in-OursNow.is c.put_outcome-in-OursNow.ensures

pub returns-in-RivalPassedOver : goal.returns-in-RivalPassedOver
returns-in-RivalPassedOver c = rw c.in-RivalPassedOver.is c.put_outcome-in-RivalPassedOver.ensures

pub returns-in-RivalWon : goal.returns-in-RivalWon
returns-in-RivalWon c = rw c.in-RivalWon.is c.put_outcome-in-RivalWon.ensures
