-- `message_posting::is_sendable` meets its contract.
use Rattle.message_posting.proofs.is_sendable.Goals as goal

pub returns : goal.returns
returns c = rw (c.is_message.ensures, c.is_listed.ensures, c.to_all.ensures)
