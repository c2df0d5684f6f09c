-- `boundary_flags::any_of_sixteen` meets its contract.
use borrow.Author.Rules.{rules}
use Rattle.boundary_flags.proofs.any_of_sixteen.Goals as goal

pub returns : goal.returns
returns c = rw (c.any_of_four.ensures, c.any_of_four-2.ensures, c.any_of_four-3.ensures, c.any_of_four-4.ensures)
