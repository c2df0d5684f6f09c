-- `replay_run::replay_part` meets its contract.
use Rattle.std.specs.Prelude.{◌≡◌, ◌-◌, ◌≤◌}
use Rattle.laws.specs.Usual.{refl, sym, ◌∙◌, false, arith, length, take}
use mathlib.Core.Bool.{true≢false}
use borrow.Author.Tests.{ltb-true, ltb-false}
use Rattle.text_feeding.specs.Feeding.{Onward}
use Rattle.text_feeding.proofs.Scan.{taken_on, onward_all}
use Rattle.replay_lines.specs.Replay.{replay, after}
use Rattle.replay_run.proofs.replay_part.Goals as goal

pub loop-going-init : goal.loop-going-init
loop-going-init c = (refl, omega arith, λ h. absurd (true≢false h))

pub replay_next-going-requires : goal.replay_next-going-requires
replay_next-going-requires c = omega (arith, ltb-true)

pub loop-going-smaller : goal.loop-going-smaller
loop-going-smaller c = omega (arith, ltb-true, c.replay_next-going.ensures.onward.forward)

pub loop-going-preserved : goal.loop-going-preserved
loop-going-preserved c =
    let a = c.args in
    let l = c.loop-going in
    let done = c.replay_next-going in
    let on : Onward a.part.now l.going.at done.result.at done.result.on = done.ensures.onward in
    let le : l.going.at ≤ done.result.at = omega arith in (
      taken_on replay a.part.now a.carried.now l.going.at done.result.at le l.invariant.0 done.ensures.carried_after,
      on.forward.within,
      λ h. onward_all on,
    )

pub returns-else-going-part : goal.returns-else-going-part
returns-else-going-part c =
    let l = c.loop-going in
    record { carried_after = l.invariant.0; taken = record { all = λ _. omega (arith, ltb-false); some = l.invariant.2 } }

pub returns-after-loop-going : goal.returns-after-loop-going
returns-after-loop-going c =
    let l = c.loop-going in
    record { carried_after = l.invariant.0; taken = record { all = λ h. absurd (true≢false (sym h ∙ c.loop-going-test.false)); some = l.invariant.2 } }
