use Rattle.std.specs.Prelude.{◌≡◌, ◌+◌, ◌≤◌}
use Rattle.laws.specs.Usual.{length, replicate}
use Rattle.settle_input.specs.Input.{lines_of, forms_from}
use Rattle.settle_input.proofs.read_forms.Given as goal

-- the forms of the lines that are left give the answer for all lines
abbrev pub invariant-loop-rest : goal.invariant-loop-rest
invariant-loop-rest l =
    (forms_from l.line l.below l.views (lines_of l.rest) ≡ forms_from 1 0 (replicate 256 0) (lines_of l.input)) × (l.line ≤ l.below + 1)

abbrev pub decreases-loop-rest : goal.decreases-loop-rest
decreases-loop-rest l = length l.rest
