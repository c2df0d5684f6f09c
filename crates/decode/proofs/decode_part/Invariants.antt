use Rattle.std.specs.Prelude.{◌≡◌, ◌-◌, ◌≤◌}
use Rattle.laws.specs.Usual.{false, length, take}
use Rattle.text_feeding.specs.Feeding.{fed_all, Onward}
use Rattle.decode.specs.Capture.{carried, decode}
use Rattle.decode.proofs.decode_part.Given as goal

abbrev pub invariant-loop-going : goal.invariant-loop-going
invariant-loop-going l =
    (carried l.going.line l.frame ≡ fed_all (decode (length l.initial.frame)) (carried l.initial.going.line l.initial.frame) (take l.going.at l.part))
    × (length l.frame ≡ length l.initial.frame)
    × (l.going.at ≤ length l.part)
    × (l.going.on ≡ false → Onward l.part 0 l.going.at l.going.on)

abbrev pub decreases-loop-going : goal.decreases-loop-going
decreases-loop-going l = length l.part - l.going.at
