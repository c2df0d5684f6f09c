-- `boundary_numbers::heard_answer` meets its contract.
use borrow.Author.Rules.{rules}
use Rattle.boundary_numbers.proofs.heard_answer.Goals as goal

pub returns-in-Cyclic : goal.returns-in-Cyclic
returns-in-Cyclic c = rw c.in-Cyclic.is c.cyclic.ensures

pub returns-in-Refused : goal.returns-in-Refused
returns-in-Refused c = rw c.in-Refused.is c.refused.ensures
