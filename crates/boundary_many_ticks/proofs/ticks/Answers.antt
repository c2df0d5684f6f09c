-- `boundary_many_ticks::ticks` meets its contract.
use Rattle.laws.specs.Usual.{refl, sym, ap, ◌∙◌, not, arith}
use Rattle.boundary_answers.specs.Numbers.{ticked_answer}
use Rattle.boundary_core.specs.Crossing.{core_of, station_of, station_in}
use Rattle.boundary_lists.specs.Lists.{members_in}
use Rattle.station.specs.Rules.Ticking.{tick_of}
use Rattle.station.specs.declared.Station.{Station}
use Rattle.ticking_quiet.proofs.ManyLaws.{ticks_station, ticks_answer}
use Rattle.ticking_jump.specs.JumpTicks.{tick_on}
use Rattle.boundary_many_ticks.specs.Calm.{calm_station, some_left}
use Rattle.boundary_many_ticks.specs.Jump.{left_station}
use Rattle.boundary_many_ticks.proofs.ticks.Goals as goal

pub loop-listed-init : goal.loop-listed-init
loop-listed-init c = refl

pub overflow_sub-left : goal.overflow_sub-left
overflow_sub-left c =
    let at = c.loop-listed in
    omega (arith, some_left at.after c.watch_time.result at.left c.is_calm.ensures (ap not c.loop-listed-test.true))

pub loop-listed-smaller : goal.loop-listed-smaller
loop-listed-smaller c =
    let at = c.loop-listed in
    omega (arith, some_left at.after c.watch_time.result at.left c.is_calm.ensures (ap not c.loop-listed-test.true), c.jump-jumped.ensures.ticks_le_count)

pub loop-listed-preserved : goal.loop-listed-preserved
loop-listed-preserved c =
    let at = c.loop-listed in
    let jumped = c.jump-jumped in
    let ticked = c.tick-outcome in
    let last = ticked.new in
    let list = members_in last.listed last.areas last.watch last.misses in
    let before = station_in jumped.result.core at.listed at.areas at.watch at.misses in
    let after = left_station ticked.result.core list (tick_of before).station ticked.ensures.core_value ticked.ensures.misses_after in
    let some = some_left at.after c.watch_time.result at.left c.is_calm.ensures (ap not c.loop-listed-test.true) in
    tick_on (station_in at.after at.listed at.areas at.watch at.misses) before (station_of ticked.result.core list) at.left jumped.result.ticks some jumped.ensures.ticks_le_count (jumped.ensures.by_index at.areas at.misses) after
    ∙ at.invariant

pub returns : goal.returns
returns c =
    let at = c.loop-listed in
    let a = c.args in
    let station = station_in a.core a.listed.now a.areas.now a.watch.now a.misses.now in
    let calm = sym c.is_calm.ensures ∙ c.loop-listed-test.false in
    let done =
    sym (calm_station at.after (members_in at.listed at.areas at.watch at.misses) at.left (c.watch_time.ensures at.areas at.misses) calm)
    ∙ at.invariant
    ∙ sym (ticks_station a.count station) in
    let answer = c.answer_in.ensures ∙ sym (ticks_answer a.count station) in
    record { core_value = c.count_on.ensures ∙ ap core_of done; answer_value = c.ticked_answer.ensures ∙ ap ticked_answer answer; misses_after = ap (λ (s : Station). s.members) done }
