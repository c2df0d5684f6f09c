-- `boundary_startup::start_up` meets its contract.
use Rattle.laws.specs.Usual.{sym, ap, ◌∙◌, ℕ}
use Rattle.boundary_core.specs.Crossing.{core_of}
use Rattle.members.specs.Members.{no_members}
use Rattle.station.specs.Rules.State.{begun}
use Rattle.station.specs.declared.Station.{Station}
use Rattle.boundary_startup.specs.Started.{nobody_listed, some_listed}
use Rattle.boundary_startup.proofs.start_up.Goals as goal

pub returns-then-first_listed-lt256 : goal.returns-then-first_listed-lt256
returns-then-first_listed-lt256 c =
    let a = c.args in
    let law = some_listed a.listed.now a.areas.now a.watch.now a.misses.now a.own (rw (← c.first_listed.ensures) c.if-first_listed-lt256.true) in record {
      value = c.participate.ensures
          ∙ ap (λ (view : ℕ). core_of (begun a.own no_members view)) c.first_listed-smallest.ensures
          ∙ sym (ap core_of law);
      misses_after = sym (ap (λ (s : Station). s.members) law);
    }

pub returns : goal.returns
returns c =
    let a = c.args in
    let law = nobody_listed a.listed.now a.areas.now a.watch.now a.misses.now a.own (rw (← c.first_listed.ensures) c.if-first_listed-lt256.false) in
    record { value = c.begin.ensures.value ∙ sym (ap core_of law); misses_after = c.begin.ensures.misses_after ∙ sym (ap (λ (s : Station). s.members) law) }
