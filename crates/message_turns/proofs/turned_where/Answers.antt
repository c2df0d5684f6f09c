-- `message_turns::turned_where` meets its contract.
use Rattle.laws.specs.Usual.{sym, ap, ◌∙◌, Bool}
use Rattle.message_places.specs.Outgoing.{messages_of}
use Rattle.message_rules.specs.Rules.Again.{turned}
use Rattle.message_turns.proofs.turned_where.Goals as goal

pub returns-then-begins : goal.returns-then-begins
returns-then-begins c = λ owed sources. c.turned.ensures owed sources ∙ ap (λ (t : Bool). turned t (messages_of c.args.outgoing owed sources)) (sym c.if-begins.true)

pub returns-else-begins : goal.returns-else-begins
returns-else-begins c = λ owed sources. ap (λ (t : Bool). turned t (messages_of c.args.outgoing owed sources)) (sym c.if-begins.false)
