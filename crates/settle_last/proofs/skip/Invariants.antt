use Rattle.std.specs.Prelude.{◌≡◌, ◌-◌}
use Rattle.settle_run.specs.Counted.{running_after}
use Rattle.settle_last.proofs.skip.Given as goal

-- with the steps that are still left out, it is where all of them lead
abbrev pub invariant-loop : goal.invariant-loop
invariant-loop l = running_after (l.steps - l.counter) l.running ≡ running_after l.steps l.initial.running
