-- `boundary_running::start` meets its contract.
use Rattle.laws.specs.Usual.{sym, ap, ◌∙◌}
use Rattle.boundary_answers.specs.Numbers.{switched_answer}
use Rattle.boundary_core.specs.Crossing.{core_of, station_in}
use Rattle.starting.specs.Answers.{switched_by, started}
use Rattle.station.specs.Rules.Starting.{Switching}
use Rattle.station.specs.Rules.State.{fresh}
use Rattle.station.specs.declared.Phase.TheVariants.{Listening}
use Rattle.station.specs.Types.{Switched}
use Rattle.boundary_running.proofs.start.Goals as goal

pub returns-in-Ok : goal.returns-in-Ok
returns-in-Ok c =
    let a = c.args in
    let station = station_in a.core a.listed.now a.areas.now a.watch.now a.misses.now in
    let answer = sym c.start_answer.ensures ∙ c.in-Ok.is in
    let law = started station a.own ∙ ap (λ (s : Switched). switched_by s (fresh Listening a.own) station) answer in record { core_value = c.begin.ensures.value ∙ sym (ap (λ (t : Switching). core_of t.station) law); answer_value = c.done.ensures ∙ sym (ap (λ (t : Switching). switched_answer t.answer) law); misses_after = c.begin.ensures.misses_after ∙ sym (ap (λ (t : Switching). t.station.members) law) }

pub returns-in-Err : goal.returns-in-Err
returns-in-Err c =
    let a = c.args in
    let station = station_in a.core a.listed.now a.areas.now a.watch.now a.misses.now in
    let answer = sym c.start_answer.ensures ∙ c.in-Err.is in
    let law = started station a.own ∙ ap (λ (s : Switched). switched_by s (fresh Listening a.own) station) answer in record { core_value = c.refuse.ensures.core_value ∙ sym (ap (λ (t : Switching). core_of t.station) law); answer_value = c.refuse.ensures.answer_value ∙ sym (ap (λ (t : Switching). switched_answer t.answer) law); misses_after = sym (ap (λ (t : Switching). t.station.members) law) }
