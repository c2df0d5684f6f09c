-- `settle_steps::settle` meets its contract.
use Rattle.std.specs.Prelude.{◌≡◌, ◌<◌}
use Rattle.laws.specs.Usual.{sym, ap, subst, ◌∙◌, ℕ, arith, length, get_or, rules}
use mir.Val.{Fits}
use mir.Syntax.{w8}
use Rattle.settle_views.specs.Views.{stations_of}
use Rattle.settle_run.specs.declared.Running.{Running}
use Rattle.settle_run.specs.Run.{settled_of, Bounded}
use Rattle.settle_run.specs.Running.{end_from}
use Rattle.settle_run.proofs.Whole.{settled_bounded}
use Rattle.settle_run.proofs.Counted.{some_left, end_more, end_over, run_ends}
use Rattle.settle_steps.proofs.settle.Goals as goal

pub loop-running-smaller : goal.loop-running-smaller
loop-running-smaller c =
    let now = c.loop-running.running in
    let less = ap (λ (running : Running). running.left) c.step.ensures.running_after in
    omega (arith, less, some_left now.settled now.left (sym c.has_ended.ensures ∙ c.loop-running-test.true))

pub loop-running-preserved : goal.loop-running-preserved
loop-running-preserved c =
    let now = c.loop-running.running in
    ap (λ (running : Running). end_from running.left running) c.step.ensures.running_after
    ∙ sym (end_more now now.left (sym c.has_ended.ensures ∙ c.loop-running-test.true))
    ∙ c.loop-running.invariant

pub returns : goal.returns
returns c =
    let ring = c.args.ring in
    let now = c.loop-running.running in
    let octets : (x : ℕ) → get_or ring.views x 0 < 256 = λ x. let fits : Fits w8 (get_or ring.views x 0) = search rules in fits.fits in
    let whole : now.settled ≡ settled_of ring =
    sym (end_over now now.left (sym c.has_ended.ensures ∙ c.loop-running-test.false))
    ∙ c.loop-running.invariant
    ∙ ap (λ (running : Running). end_from running.left running) c.begin-running.ensures
    ∙ run_ends ring (search rules) octets in
    record { value = whole; bounded = subst (Bounded (length (stations_of ring))) (sym whole) (settled_bounded ring) }
