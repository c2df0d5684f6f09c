-- `falling_due::request_fallen` meets its contract.
use borrow.Author.Rules.{rules}
use Rattle.falling_due.proofs.request_fallen.Goals as goal

pub returns-in-Off : goal.returns-in-Off
returns-in-Off c = rw c.in-Off.is

pub returns-in-Listening : goal.returns-in-Listening
returns-in-Listening c = rw c.in-Listening.is

pub returns-in-Startup : goal.returns-in-Startup
returns-in-Startup c = rw (c.number_wait-wait.ensures, c.in-Startup.is)

pub returns-in-Joining : goal.returns-in-Joining
returns-in-Joining c = rw (c.number_wait-wait.ensures, c.in-Joining.is)

pub returns-in-Participating : goal.returns-in-Participating
returns-in-Participating c = rw c.in-Participating.is
