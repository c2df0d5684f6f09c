use Rattle.std.specs.Prelude.{◌≡◌, ◌++◌}
use Rattle.std.specs.Io.KnownBytes.{Appends}
use Rattle.laws.specs.Usual.{List, ℕ, length}
use Rattle.settle_rest.specs.Rest.{rest_of}
use Rattle.settle_print.specs.Parts.{lines_left}
use Rattle.settle_write.proofs.write_rest.Given as goal

-- what was written, and what is still to be printed, are what was to be printed
abbrev pub invariant-loop-printing : goal.invariant-loop-printing
invariant-loop-printing g l =
    (length l.buffer ≡ 65536)
    × ((text : List ℕ)
    × (text ++ rest_of l.printing ≡ rest_of l.initial.printing)
    × Appends (g.W.Write.contents l.initial.output) (g.W.Write.contents l.output) text)

abbrev pub decreases-loop-printing : goal.decreases-loop-printing
decreases-loop-printing g l = lines_left l.printing
