use Rattle.std.specs.Prelude.{◌≡◌}
use Rattle.laws.specs.Usual.{List, ℕ, length}
use Rattle.replay_lines.specs.Replay.{after}
use Rattle.replay_run.proofs.replay_all.Given as goal

abbrev pub invariant-loop : goal.invariant-loop
invariant-loop l = ((input : List ℕ) × (l.carried ≡ after l.initial.carried input)) × (length l.part ≡ length l.initial.part)
