-- `decode::decode_part` meets its contract.
use Rattle.std.specs.Prelude.{◌-◌, ◌≤◌}
use Rattle.laws.specs.Usual.{refl, sym, ap, ◌∙◌, ℕ, arith, length, take, drop}
use mathlib.Core.Bool.{true≢false}
use borrow.Author.Tests.{ltb-true, ltb-false}
use Rattle.text_feeding.specs.Feeding.{fed_all, Onward}
use Rattle.text_feeding.proofs.Scan.{taken_on, onward_all}
use Rattle.decode.specs.Capture.{carried, decode}
use Rattle.decode.proofs.decode_part.Goals as goal

pub loop-going-init : goal.loop-going-init
loop-going-init c = (refl, refl, omega arith, λ h. absurd (true≢false h))

pub decode_next-going-requires : goal.decode_next-going-requires
decode_next-going-requires c = omega (arith, ltb-true)

pub loop-going-smaller : goal.loop-going-smaller
loop-going-smaller c =
    let on = c.decode_next-going.ensures.onward in
    omega (arith, on.forward)

pub loop-going-preserved : goal.loop-going-preserved
loop-going-preserved c =
    let a = c.args in
    let l = c.loop-going in
    let done = c.decode_next-going in
    let part = a.part.now in
    let on : Onward part l.going.at done.result.at done.result.on = done.ensures.onward in
    let le : l.going.at ≤ done.result.at = omega arith in (
      taken_on (decode (length a.frame.now)) part (carried a.line a.frame.now) l.going.at done.result.at le l.invariant.0
          (done.ensures.frame_after
          ∙ ap (λ (n : ℕ). fed_all (decode n) (carried l.going.line l.frame) (take (done.result.at - l.going.at) (drop l.going.at part))) l.invariant.1),
      done.auto.frame ∙ l.invariant.1,
      on.forward.within,
      λ h. onward_all on,
    )

pub shape_of-frame-else-going-part : goal.shape_of-frame-else-going-part
shape_of-frame-else-going-part c = c.loop-going.invariant.1

pub returns-else-going-part : goal.returns-else-going-part
returns-else-going-part c =
    let l = c.loop-going in
    record { frame_after = l.invariant.0; taken = record { all = λ _. omega (arith, ltb-false); some = l.invariant.3 } }

pub shape_of-frame-after-loop-going : goal.shape_of-frame-after-loop-going
shape_of-frame-after-loop-going c = c.loop-going.invariant.1

pub returns-after-loop-going : goal.returns-after-loop-going
returns-after-loop-going c =
    let l = c.loop-going in
    record { frame_after = l.invariant.0; taken = record { all = λ h. absurd (true≢false (sym h ∙ c.loop-going-test.false)); some = l.invariant.3 } }
