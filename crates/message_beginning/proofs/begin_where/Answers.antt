-- `message_beginning::begin_where` meets its contract.
use Rattle.laws.specs.Usual.{sym, arith}
use Rattle.message_places.proofs.Laws.{outgoing_same}
use Rattle.message_beginning.proofs.begin_where.Goals as goal

pub returns-else-begins-clause-outgoing_after : goal.returns-else-begins-clause-outgoing_after
returns-else-begins-clause-outgoing_after c = rw c.if-begins.false (sym (outgoing_same c.args.outgoing.now (omega arith)))
