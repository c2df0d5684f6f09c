-- `message_receiving::answer_to` meets its contract.
use Rattle.laws.specs.Usual.{[]}
use Rattle.message_receiving.proofs.answer_to.Goals as goal

pub returns-in-New : goal.returns-in-New
returns-in-New c = rw c.in-New.is (c.handed_over.ensures [])
