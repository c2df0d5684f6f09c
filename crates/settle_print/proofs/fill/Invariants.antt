use Rattle.std.specs.Prelude.{◌≡◌}
use Rattle.laws.specs.Usual.{length, take}
use Rattle.copying.specs.Pasted.{pasted}
use Rattle.settle_rest.specs.Rest.{rest_of}
use Rattle.settle_print.specs.Parts.{lines_left}
use Rattle.settle_print.specs.Filling.{Filling}
use Rattle.settle_print.proofs.fill.Given as goal

abbrev pub invariant-loop-buffer : goal.invariant-loop-buffer
invariant-loop-buffer l =
    Filling (length l.initial.buffer) l.initial.printing l.printing l.at
    × (l.buffer ≡ pasted l.initial.buffer 0 (take l.at (rest_of l.initial.printing)))
    × (length l.buffer ≡ length l.initial.buffer)

abbrev pub decreases-loop-buffer : goal.decreases-loop-buffer
decreases-loop-buffer l = lines_left l.printing
