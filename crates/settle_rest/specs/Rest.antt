-- What is still to be printed of `output_of`.
use Rattle.laws.specs.Usual.{Bool, true, false, cond, List, [], ℕ, suc, leb}
use Rattle.std.specs.Prelude.{Result, Ok, Err, ◌++◌, ◌+◌, ◌-◌, zero}
use Rattle.settle_views.specs.declared.Ring.{Ring}
use Rattle.settle_run.specs.Run.{settled_of}
use Rattle.settle_run.specs.Running.{running_of, next_step, onward, end_from}
use Rattle.settle_run.specs.Counted.{running_after}
use Rattle.settle_run.specs.declared.Running.{Running}
use Rattle.settle_input.specs.Input.{read_of}
use Rattle.settle_input.specs.declared.BadLine.{BadLine}
use Rattle.settle_output.specs.Output.{header_line, step_line, settled_line, bad_line}
use Rattle.settle_rest.specs.declared.Printing.{Printing}
use Rattle.settle_rest.specs.declared.Printing.TheVariants.{Bad, Header, Run, Over}

-- the lines of the steps that a run still makes, so many at most
unfoldable pub lines_from : ℕ → Running → List ℕ
lines_from zero running = []
lines_from (suc left) running = cond (leb running.settled.views 1) [] (step_line (next_step running) ++ lines_from left (onward running))

-- these lines, and the totals
abbrev pub run_rest : Running → List ℕ
run_rest running = lines_from running.left running ++ settled_line (end_from running.left running)

-- all that is still to be printed
unfoldable pub rest_of : Printing → List ℕ
rest_of (Bad number) = bad_line number
rest_of (Header running) = header_line ++ run_rest running
rest_of (Run running) = run_rest running
rest_of Over = []

-- nothing is
abbrev pub is_over : Printing → Bool
is_over (Bad number) = false
is_over (Header running) = false
is_over (Run running) = false
is_over Over = true

-- what is to be printed for an input (`begun`: all of `output_of`)
abbrev pub printing_for : Result Ring BadLine → Printing
printing_for (Ok ring) = Header (running_of ring)
printing_for (Err bad) = Bad bad.0

unfoldable pub printing_of : List ℕ → Printing
printing_of octets = printing_for (read_of octets)

-- how many steps the run of a ring has
abbrev pub steps_of : Ring → ℕ
steps_of ring = (settled_of ring).passes + (settled_of ring).silences

-- only the last steps of a run, at most so many
abbrev pub last_of : ℕ → Running → Running
last_of shown running = running_after (steps_of running.ring - shown) running

abbrev pub shortened : ℕ → Printing → Printing
shortened shown (Bad number) = Bad number
shortened shown (Header running) = Header (last_of shown running)
shortened shown (Run running) = Run (last_of shown running)
shortened shown Over = Over
