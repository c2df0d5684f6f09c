-- `message_letters_heard::turn_off` meets its contract.
use Rattle.laws.specs.Usual.{ap, ◌∙◌, true}
use Rattle.message_beginning.specs.Begun.{begun_where}
use Rattle.message_places.specs.Outgoing.{outgoing_of}
use Rattle.message_places.specs.Places.{kept_outgoing, messages_lent}
use Rattle.message_places.specs.declared.Outgoing.{Outgoing}
use Rattle.message_letters_heard.proofs.turn_off.Goals as goal

pub returns : goal.returns
returns c =
    let a = c.args in
    let messages = messages_lent a.outgoing.now a.owed.now a.versions.now a.one_to_one.now a.to_all.now in
    let stop = c.stop.ensures in
    let begin = c.begin_where.ensures in
    let none = c.nothing-nothing.ensures in
    record { core_after = stop.core_after; core_after_2 = stop.core_after_2; misses_after = stop.misses_after; to_all_after = begin.to_all_after ∙ ap (λ (o : Outgoing). begun_where true o messages) none; outgoing_after = begin.outgoing_after ∙ ap (λ (o : Outgoing). kept_outgoing a.outgoing.now (outgoing_of (begun_where true o messages))) none; owed_after = begin.owed_after }
