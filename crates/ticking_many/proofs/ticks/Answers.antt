-- `ticking_many::ticks` meets its contract.
use Rattle.std.specs.Prelude.{◌≡◌}
use Rattle.laws.specs.Usual.{refl, sym, ap, ◌∙◌, ℕ, arith}
use Rattle.ticking_quiet.specs.Many.{after_ticks}
use Rattle.ticking_quiet.proofs.ManyLaws.{ticks_station, ticks_answer}
use Rattle.ticking_jump.specs.JumpTicks.{tick_on}
use Rattle.ticking_many.proofs.ticks.Goals as goal

pub loop-left-init : goal.loop-left-init
loop-left-init c = refl

pub overflow_sub-left : goal.overflow_sub-left
overflow_sub-left c = omega arith

pub loop-left-smaller : goal.loop-left-smaller
loop-left-smaller c = omega (arith, c.jump-jumped.ensures.ticks_le_count)

pub loop-left-preserved : goal.loop-left-preserved
loop-left-preserved c =
    let at = c.loop-left in
    let jumped = c.jump-jumped in
    tick_on at.after jumped.result.station c.tick-ticking.result.station at.left jumped.result.ticks (omega arith) jumped.ensures.ticks_le_count jumped.ensures.station_value c.tick-ticking.ensures.station_value
    ∙ at.invariant

pub returns : goal.returns
returns c =
    let a = c.args in
    let at = c.loop-left in
    let none : 0 ≡ at.left = omega arith in
    record { station_value = ap (λ (n : ℕ). after_ticks n at.after) none ∙ at.invariant ∙ sym (ticks_station a.count a.station); answer_value = c.answer_in-answer.ensures ∙ sym (ticks_answer a.count a.station) }
