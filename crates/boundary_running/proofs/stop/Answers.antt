-- `boundary_running::stop` meets its contract.
use Rattle.std.specs.Prelude.{Ok, Err, ◌≡◌}
use Rattle.laws.specs.Usual.{sym, ap, ◌∙◌, true, false}
use Rattle.boundary_answers.specs.Numbers.{switched_answer}
use Rattle.boundary_core.specs.Crossing.{core_of, station_in}
use Rattle.frame.specs.declared.Refusal.TheVariants.{NotDue}
use Rattle.station.specs.Rules.Starting.{Switching, stop_of}
use Rattle.station.specs.Rules.State.{is_off, stopped}
use Rattle.boundary_running.proofs.stop.Goals as goal

pub returns-then-is_off : goal.returns-then-is_off
returns-then-is_off c =
    let a = c.args in
    let station = station_in a.core a.listed.now a.areas.now a.watch.now a.misses.now in
    let off : is_off a.core.phase ≡ true = sym c.is_off.ensures ∙ c.if-is_off.true in
    let law : stop_of station ≡ record { station = station; answer = Err NotDue } = rw off in record { core_value = c.refuse.ensures.core_value ∙ sym (ap (λ (t : Switching). core_of t.station) law); answer_value = c.refuse.ensures.answer_value ∙ sym (ap (λ (t : Switching). switched_answer t.answer) law); misses_after = sym (ap (λ (t : Switching). t.station.members) law) }

pub returns : goal.returns
returns c =
    let a = c.args in
    let station = station_in a.core a.listed.now a.areas.now a.watch.now a.misses.now in
    let on : is_off a.core.phase ≡ false = sym c.is_off.ensures ∙ c.if-is_off.false in
    let law : stop_of station ≡ record { station = stopped station; answer = Ok tt } = rw on in record { core_value = c.turn_off.ensures.value ∙ sym (ap (λ (t : Switching). core_of t.station) law); answer_value = c.done.ensures ∙ sym (ap (λ (t : Switching). switched_answer t.answer) law); misses_after = c.turn_off.ensures.misses_after ∙ sym (ap (λ (t : Switching). t.station.members) law) }
