-- `boundary_entering::hear` meets its contract.
use Rattle.laws.specs.Usual.{refl}
use Rattle.boundary_lists.specs.Lists.{members_in}
use Rattle.boundary_entering.specs.Entering.{entered}
use Rattle.boundary_entering.proofs.hear.Goals as goal

pub returns-in-Nothing : goal.returns-in-Nothing
returns-in-Nothing c =
    let a = c.args in
    let members = members_in a.listed.now a.areas.now a.watch.now a.misses.now in
    let both = entered a.core members a.frame refl c.effect_of.ensures c.in-Nothing.is c.heard_answer-answer.ensures c.answer.ensures refl refl in
    record { core_value = both.0; answer_value = both.1.0; misses_after = both.1.1 }
