-- `boundary_ticks::ticks` meets its contract.
use Rattle.laws.specs.Usual.{rules}
use Rattle.boundary_answers.specs.Numbers.{ticked_answer}
use Rattle.boundary_core.specs.Crossing.{station_in}
use Rattle.boundary_core.specs.declared.Core.{Core}
use Rattle.boundary_places.proofs.Laws.{call_kept}
use Rattle.station.specs.Rules.Ticking.{Ticking}
use Rattle.ticking_quiet.specs.Many.{ticks_of}
use Rattle.boundary_ticks.proofs.ticks.Goals as goal

pub returns : goal.returns
returns c =
    let a = c.args in
    let call : Core → Ticking = λ (k : Core). ticks_of a.count (station_in k a.listed.now a.areas.now a.watch.now a.misses.now) in
    let whole = call_kept (λ (k : Core). (call k).station) (λ (k : Core). ticked_answer (call k).answer) _ _ _ _ _ _ _ c.core_in.ensures.value (c.ticks.ensures.core_value, (c.ticks.ensures.answer_value, c.ticks.ensures.misses_after)) (c.keep_outcome.ensures.numbers_after, (c.keep_outcome.ensures.numbers_after_2, c.keep_outcome.ensures.value)) in
    record { core_after = whole.0; core_after_2 = whole.1.0; value = whole.1.1.0; misses_after = whole.1.1.1 }
