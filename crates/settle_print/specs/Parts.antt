-- The parts in which what is still to be printed goes into a lent buffer.
use Rattle.laws.specs.Usual.{Bool, cond, not, List, [], ℕ, suc, length, take, leb}
use Rattle.std.specs.Prelude.{◌&&◌, ◌+◌, ◌-◌, zero}
use Rattle.copying.specs.Pasted.{pasted}
use Rattle.settle_run.specs.Running.{has_ended, next_step, onward}
use Rattle.settle_run.specs.declared.Running.{Running}
use Rattle.settle_output.specs.Output.{room, header_line, step_line, settled_line, bad_line}
use Rattle.settle_rest.specs.Rest.{rest_of, is_over}
use Rattle.settle_rest.specs.declared.Printing.{Printing}
use Rattle.settle_rest.specs.declared.Printing.TheVariants.{Bad, Header, Run, Over}
use Rattle.settle_print.specs.declared.Filled.{Filled}

-- a run's next line, the next step or the totals, and what is to be printed behind it
abbrev pub run_line_by : Bool → Running → List ℕ
run_line_by ended running = cond ended (settled_line running.settled) (step_line (next_step running))

abbrev pub run_next_by : Bool → Running → Printing
run_next_by ended running = cond ended Over (Run (onward running))

abbrev pub run_line : Running → List ℕ
run_line running = run_line_by (has_ended running.settled running.left) running

abbrev pub run_next : Running → Printing
run_next running = run_next_by (has_ended running.settled running.left) running

-- the next line, and what is to be printed behind it
unfoldable pub next_line : Printing → List ℕ
next_line (Bad number) = bad_line number
next_line (Header running) = header_line
next_line (Run running) = run_line running
next_line Over = []

unfoldable pub next_of : Printing → Printing
next_of (Bad number) = Over
next_of (Header running) = Run running
next_of (Run running) = run_next running
next_of Over = Over

-- how many lines are left at most
abbrev pub lines_left : Printing → ℕ
lines_left (Bad number) = 1
lines_left (Header running) = suc (suc running.left)
lines_left (Run running) = suc running.left
lines_left Over = 0

-- it goes on: a line is left, and any line has room
abbrev pub goes_on : ℕ → Printing → ℕ → Bool
goes_on size p at = not (is_over p) && leb room (size - at)

-- one line after the other goes into a buffer of so many octets, from octet `at` on, so many lines at most
unfoldable pub fill_from : ℕ → ℕ → Printing → ℕ → Filled
fill_from zero size p at = record { printing = p; length = at }
fill_from (suc lines) size p at =
    cond (goes_on size p at) (fill_from lines size (next_of p) (at + length (next_line p))) (record { printing = p; length = at })

-- how many octets go into a buffer of so many, and what is to be printed behind them
abbrev pub filled_of : ℕ → Printing → Filled
filled_of size p = fill_from (lines_left p) size p 0

-- the octets: the first ones of all that is still to be printed
abbrev pub part_of : ℕ → Printing → List ℕ
part_of size p = take (filled_of size p).length (rest_of p)

-- they stand in front of the buffer, and what stood behind them stays
abbrev pub buffer_after : Printing → List ℕ → List ℕ
buffer_after p buffer = pasted buffer 0 (part_of (length buffer) p)
