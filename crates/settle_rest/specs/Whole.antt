-- The whole output of `settle` for an input, and the paper's example. `settle_print/specs/Joined.antt` shows that it is what is printed.
use Rattle.laws.specs.Usual.{List, [], ℕ, suc}
use Rattle.std.specs.Prelude.{Result, Ok, Err, ◌∷◌, ◌++◌, ◌+◌, zero}
use Rattle.settle_views.specs.declared.Ring.{Ring}
use Rattle.settle_moves.specs.Moves.{moved}
use Rattle.settle_run.specs.Run.{event_in, stepped_of, settled_of}
use Rattle.settle_input.specs.Input.{read_of}
use Rattle.settle_input.specs.declared.BadLine.{BadLine}
use Rattle.settle_output.specs.Output.{header_line, step_line, settled_line, bad_line}

-- the lines of so many steps, each from the ring that the one before it leaves
unfoldable pub step_lines : ℕ → Ring → List ℕ
step_lines zero ring = []
step_lines (suc steps) ring = step_line (stepped_of ring) ++ step_lines steps (moved ring (event_in ring))

-- the column names, the steps of the run, and its totals
abbrev pub run_lines : Ring → List ℕ
run_lines ring = header_line ++ (step_lines ((settled_of ring).passes + (settled_of ring).silences) ring ++ settled_line (settled_of ring))

-- "Bad input prints `bad,` and the line's number alone"
abbrev pub answer_lines : Result Ring BadLine → List ℕ
answer_lines (Ok ring) = run_lines ring
answer_lines (Err bad) = bad_line bad.0

abbrev pub output_of : List ℕ → List ℕ
output_of octets = answer_lines (read_of octets)

-- "1,3", "2,3", "3,1"
abbrev pub example : List ℕ
example = 0x31 ∷ 0x2c ∷ 0x33 ∷ 0x0a ∷ 0x32 ∷ 0x2c ∷ 0x33 ∷ 0x0a ∷ 0x33 ∷ 0x2c ∷ 0x31 ∷ 0x0a ∷ []
