-- `boundary_ticks::tick` meets its contract.
use Rattle.laws.specs.Usual.{sym, ◌∙◌}
use Rattle.boundary_answers.specs.Numbers.{ticked_answer}
use Rattle.boundary_core.specs.Crossing.{station_in}
use Rattle.boundary_core.specs.declared.Core.{Core}
use Rattle.boundary_calm.specs.Calm.{counted}
use Rattle.boundary_lists.specs.Lists.{members_in}
use Rattle.boundary_places.proofs.Laws.{call_kept}
use Rattle.station.specs.Rules.Ticking.{Ticking, tick_of}
use Rattle.boundary_ticks.proofs.tick.Goals as goal

pub returns-then-counts : goal.returns-then-counts
returns-then-counts c =
    let a = c.args in
    let call : Core → Ticking = λ (k : Core). tick_of (station_in k a.listed.now a.areas.now a.watch.now a.misses.now) in
    let law = counted c.core_in-state.result (members_in a.listed.now a.areas.now a.watch.now a.misses.now) (c.watch_time-time.ensures a.areas.now a.misses.now) (sym c.counts.ensures ∙ c.if-counts.true) in
    let whole = call_kept (λ (k : Core). (call k).station) (λ (k : Core). ticked_answer (call k).answer) _ _ _ _ _ _ _ c.core_in-state.ensures.value (c.count.ensures ∙ law.0, law.1) (c.keep.ensures.numbers_after, (c.keep.ensures.numbers_after_2, c.done.ensures)) in
    record { core_after = whole.0; core_after_2 = whole.1.0; value = whole.1.1.0; misses_after = whole.1.1.1 }

pub returns : goal.returns
returns c =
    let a = c.args in
    let call : Core → Ticking = λ (k : Core). tick_of (station_in k a.listed.now a.areas.now a.watch.now a.misses.now) in
    let whole = call_kept (λ (k : Core). (call k).station) (λ (k : Core). ticked_answer (call k).answer) _ _ _ _ _ _ _ c.core_in-state.ensures.value (c.tick.ensures.core_value, (c.tick.ensures.answer_value, c.tick.ensures.misses_after)) (c.keep_outcome.ensures.numbers_after, (c.keep_outcome.ensures.numbers_after_2, c.keep_outcome.ensures.value)) in
    record { core_after = whole.0; core_after_2 = whole.1.0; value = whole.1.1.0; misses_after = whole.1.1.1 }
