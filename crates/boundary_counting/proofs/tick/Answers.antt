-- `boundary_counting::tick` meets its contract.
use Rattle.laws.specs.Usual.{sym, ap, ◌∙◌}
use Rattle.boundary_answers.specs.Numbers.{ticked_answer}
use Rattle.boundary_calm.specs.Calm.{counted}
use Rattle.boundary_core.specs.Crossing.{core_of}
use Rattle.boundary_lists.specs.Lists.{members_in}
use Rattle.boundary_waiting.proofs.Ticks.{stays_off}
use Rattle.boundary_waiting.specs.Waiting.{is_waiting}
use Rattle.boundary_watch.specs.Watch.{is_quiet}
use Rattle.laws.specs.Tests.{neither_first, neither_second}
use Rattle.station.specs.Rules.Ticking.{Ticking}
use Rattle.boundary_core.specs.Crossing.{in_phase}
use Rattle.station.specs.declared.Phase.TheVariants.{Startup, Joining, Participating}
use Rattle.boundary_counting.proofs.tick.Goals as goal

pub returns-then-counts : goal.returns-then-counts
returns-then-counts c =
    let a = c.args in
    let law = counted a.core (members_in a.listed.now a.areas.now a.watch.now a.misses.now) (c.watch_time-time.ensures a.areas.now a.misses.now) (sym c.counts.ensures ∙ c.if-counts.true) in
    record { core_value = c.count.ensures ∙ law.0; answer_value = c.done.ensures ∙ law.1.0; misses_after = law.1.1 }

pub tick-requires : goal.tick-requires
tick-requires c =
    let a = c.args in record {
      phase_value = in_phase Participating a.core (sym c.is_in.ensures ∙ c.if-is_in.true);
      misses_value = ap (is_quiet a.core) (sym (c.watch_time-time.ensures a.areas.now a.misses.now))
          ∙ neither_first (is_quiet a.core c.watch_time-time.result) (is_waiting a.core) (sym c.counts.ensures ∙ c.if-counts.false);
    }

pub returns-then-is_in : goal.returns-then-is_in
returns-then-is_in c = c.tick.ensures

pub tick_startup-requires : goal.tick_startup-requires
tick_startup-requires c =
    let core = c.args.core in record { phase_value = in_phase Startup core (sym c.is_in-2.ensures ∙ c.if-is_in-2.true); core_value = neither_second (is_quiet core c.watch_time-time.result) (is_waiting core) (sym c.counts.ensures ∙ c.if-counts.false) }

pub tick_joining-requires : goal.tick_joining-requires
tick_joining-requires c =
    let core = c.args.core in record { phase_value = in_phase Joining core (sym c.is_in-3.ensures ∙ c.if-is_in-3.true); core_value = neither_second (is_quiet core c.watch_time-time.result) (is_waiting core) (sym c.counts.ensures ∙ c.if-counts.false) }

pub returns : goal.returns
returns c =
    let a = c.args in
    let ends = neither_second (is_quiet a.core c.watch_time-time.result) (is_waiting a.core) (sym c.counts.ensures ∙ c.if-counts.false) in
    let members = members_in a.listed.now a.areas.now a.watch.now a.misses.now in
    let law = stays_off a.core members ends (sym c.is_in-2.ensures ∙ c.if-is_in-2.false) (sym c.is_in-3.ensures ∙ c.if-is_in-3.false) (sym c.is_in.ensures ∙ c.if-is_in.false) in record { core_value = sym (ap (λ (t : Ticking). core_of t.station) law); answer_value = c.ticked_answer.ensures ∙ sym (ap (λ (t : Ticking). ticked_answer t.answer) law); misses_after = sym (ap (λ (t : Ticking). t.station.members) law) }
