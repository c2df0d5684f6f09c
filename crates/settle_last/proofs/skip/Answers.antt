-- `settle_last::skip` meets its contract.
use Rattle.std.specs.Prelude.{◌≡◌, ◌+◌, ◌-◌}
use Rattle.laws.specs.Usual.{ap, ◌∙◌, ℕ, suc, arith}
use Rattle.settle_run.specs.Counted.{running_after}
use Rattle.settle_last.proofs.skip.Goals as goal

pub loop-preserved : goal.loop-preserved
loop-preserved c =
    let loop = c.loop in
    let left = c.args.steps - (loop.counter + 1) in
    let one : suc left ≡ c.args.steps - loop.counter = omega (arith, c.loop-test.true) in
    ap (running_after left) c.step.ensures.running_after
    ∙ ap (λ (k : ℕ). running_after k loop.running) one
    ∙ loop.invariant
