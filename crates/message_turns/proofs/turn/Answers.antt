-- `message_turns::turn` meets its contract.
use Rattle.laws.specs.Usual.{sym, ap, ◌∙◌, Bool}
use Rattle.message_places.specs.Outgoing.{messages_of}
use Rattle.message_places.specs.Places.{outgoing_in}
use Rattle.message_places.specs.declared.Outgoing.{Outgoing}
use Rattle.message_rules.specs.Rules.Again.{turned}
use Rattle.message_turns.specs.Kept.{makes, left}
use Rattle.message_turns.proofs.turn.Goals as goal

pub returns-then-taking : goal.returns-then-taking
returns-then-taking c =
    let a = c.args in let both = makes (turned a.taking) a.numbers.now _ c.turned.result
    (λ owed sources.
    c.turned.ensures owed sources
    ∙ ap (λ (t : Bool). turned t (messages_of c.outgoing_in-outgoing.result owed sources)) (sym c.if-taking.true)
    ∙ ap (λ (o : Outgoing). turned a.taking (messages_of o owed sources)) c.outgoing_in-outgoing.ensures.value)
    c.keep.ensures.numbers_after c.keep.ensures.numbers_after_2 in
    record { sources_after = both.0; numbers_after = both.1 }

pub returns-else-taking : goal.returns-else-taking
returns-else-taking c =
    let a = c.args in let both = left (turned a.taking) a.numbers.now c.outgoing_in-outgoing.ensures.numbers_len
    (λ owed sources. ap (λ (t : Bool). turned t (messages_of (outgoing_in a.numbers.now) owed sources)) (sym c.if-taking.false)) in
    record { sources_after = both.0; numbers_after = both.1 }
