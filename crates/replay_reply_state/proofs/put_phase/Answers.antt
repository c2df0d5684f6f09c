-- `replay_reply_state::put_phase` meets its contract.
use Rattle.replay_reply_state.proofs.put_phase.Goals as goal

pub returns-in-Off : goal.returns-in-Off
returns-in-Off c = rw c.in-Off.is c.put_word.ensures

pub returns-in-Listening : goal.returns-in-Listening
returns-in-Listening c = rw c.in-Listening.is c.put_word-in-Listening.ensures

pub returns-in-Startup : goal.returns-in-Startup
returns-in-Startup c = rw c.in-Startup.is c.put_word-in-Startup.ensures

pub returns-in-Joining : goal.returns-in-Joining
returns-in-Joining c = rw c.in-Joining.is c.put_word-in-Joining.ensures

pub returns-in-Participating : goal.returns-in-Participating
returns-in-Participating c = rw c.in-Participating.is c.put_word-in-Participating.ensures
