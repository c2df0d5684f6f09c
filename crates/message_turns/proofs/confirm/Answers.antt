-- `message_turns::confirm` meets its contract.
use Rattle.laws.specs.Usual.{ap, ◌∙◌}
use Rattle.message_places.specs.Outgoing.{messages_of}
use Rattle.message_places.specs.declared.Outgoing.{Outgoing}
use Rattle.message_rules.specs.Rules.Again.{turned}
use Rattle.message_rules.specs.Rules.Confirming.{confirmed}
use Rattle.message_rules.specs.Rules.State.{Messages}
use Rattle.message_turns.specs.Kept.{makes}
use Rattle.message_turns.proofs.confirm.Goals as goal

pub returns : goal.returns
returns c =
    let a = c.args in let both = makes (λ (m : Messages). turned a.taking (confirmed a.own m a.source a.confirmation)) a.numbers.now _ c.turned_where.result
    (λ owed sources.
    c.turned_where.ensures owed sources
    ∙ ap (turned a.taking)
    (c.confirmed-after.ensures owed sources ∙ ap (λ (o : Outgoing). confirmed a.own (messages_of o owed sources) a.source a.confirmation) c.outgoing_in-outgoing.ensures.value))
    c.keep.ensures.numbers_after c.keep.ensures.numbers_after_2 in
    record { sources_after = both.0; numbers_after = both.1 }
