use Rattle.std.specs.Prelude.{◌≡◌, ◌-◌, ◌≤◌}
use Rattle.laws.specs.Usual.{false, length, take}
use Rattle.text_feeding.specs.Feeding.{Onward}
use Rattle.replay_lines.specs.Replay.{after}
use Rattle.replay_run.proofs.replay_part.Given as goal

abbrev pub invariant-loop-going : goal.invariant-loop-going
invariant-loop-going l =
    (l.carried ≡ after l.initial.carried (take l.going.at l.part))
    × (l.going.at ≤ length l.part)
    × (l.going.on ≡ false → Onward l.part 0 l.going.at l.going.on)

abbrev pub decreases-loop-going : goal.decreases-loop-going
decreases-loop-going l = length l.part - l.going.at
