-- `message_turns::tick` meets its contract.
use Rattle.std.specs.Prelude.{◌≡◌}
use Rattle.laws.specs.Usual.{sym, ap, ◌∙◌, Bool, false}
use Rattle.laws.specs.Tests.{neither_first, neither_second}
use Rattle.message_places.specs.Outgoing.{messages_of}
use Rattle.message_places.specs.Places.{outgoing_in}
use Rattle.message_places.specs.declared.Outgoing.{Outgoing}
use Rattle.message_rules.specs.Rules.Again.{is_unconfirmed, ticked, turned}
use Rattle.message_rules.specs.Rules.State.{Messages}
use Rattle.message_turns.specs.Kept.{makes, left, untouched}
use Rattle.message_turns.proofs.tick.Goals as goal

pub returns-then-taking-is_unconfirmed : goal.returns-then-taking-is_unconfirmed
returns-then-taking-is_unconfirmed c =
    let a = c.args in let both = makes (λ (m : Messages). turned a.taking (ticked m)) a.numbers.now _ c.turned_where.result
    (λ owed sources.
    c.turned_where.ensures owed sources
    ∙ ap (turned a.taking) (c.ticked.ensures owed sources ∙ ap (λ (o : Outgoing). ticked (messages_of o owed sources)) c.outgoing_in-outgoing.ensures.value))
    c.keep.ensures.numbers_after c.keep.ensures.numbers_after_2 in
    record { sources_after = both.0; numbers_after = both.1 }

pub returns-else-taking-is_unconfirmed : goal.returns-else-taking-is_unconfirmed
returns-else-taking-is_unconfirmed c =
    let a = c.args in
    let before = outgoing_in a.numbers.now in
    let none : is_unconfirmed before.slot.mail ≡ false =
    ap (λ (o : Outgoing). is_unconfirmed o.slot.mail) (sym c.outgoing_in-outgoing.ensures.value) ∙ sym c.is_unconfirmed.ensures
    ∙ neither_second a.taking _ c.if-taking-is_unconfirmed.false in let both = left (λ (m : Messages). turned a.taking (ticked m)) a.numbers.now c.outgoing_in-outgoing.ensures.numbers_len
    (λ owed sources.
    untouched (messages_of before owed sources) none
    ∙ ap (λ (t : Bool). turned t (ticked (messages_of before owed sources))) (sym (neither_first a.taking _ c.if-taking-is_unconfirmed.false))) in
    record { sources_after = both.0; numbers_after = both.1 }
