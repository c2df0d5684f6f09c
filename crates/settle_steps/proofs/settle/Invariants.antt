use Rattle.std.specs.Prelude.{◌≡◌}
use Rattle.settle_run.specs.Running.{end_from}
use Rattle.settle_steps.proofs.settle.Given as goal

-- it ends where the run that was begun ends
abbrev pub invariant-loop-running : goal.invariant-loop-running
invariant-loop-running l = end_from l.running.left l.running ≡ end_from l.initial.running.left l.initial.running

abbrev pub decreases-loop-running : goal.decreases-loop-running
decreases-loop-running l = l.running.left
