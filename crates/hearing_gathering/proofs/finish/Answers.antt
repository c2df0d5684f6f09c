-- `hearing_gathering::finish` meets its contract.
use Rattle.laws.specs.Usual.{◌∙◌, rules}
use borrow.Author.Tests.{eq-eqb, ne_eqb}
use Rattle.hearing_gathering.proofs.finish.Goals as goal

pub returns-then-frame : goal.returns-then-frame
returns-then-frame c =
    let last = eq-eqb _ _ c.if-frame.true in
    record { gathering_value = c.nothing-gathering.ensures ∙ rw last; outcome_value = rw last; memory_after = c.write_turn.ensures ∙ rw last }

pub returns : goal.returns
returns c =
    let more = ne_eqb _ _ c.if-frame.false in
    record { gathering_value = rw more; outcome_value = rw more; memory_after = rw more }
