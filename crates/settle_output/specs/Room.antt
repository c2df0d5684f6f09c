-- Every line of `settle` fits into `room`, and none is empty. Assumes nothing.
use Rattle.std.specs.Prelude.{◌∷◌, ◌++◌, ◌+◌, ◌*◌, ◌≤◌}
use Rattle.laws.specs.Usual.{List, [], ℕ, arith, length}
use Rattle.std.proofs.Common.{length-append}
use Rattle.text.specs.Lines.{line_feed, numbers_of, line_of}
use Rattle.text.specs.LineLaws.{numbers_length}
use Rattle.settle_run.specs.Run.{letter_of}
use Rattle.settle_run.specs.declared.Settled.{Settled}
use Rattle.settle_run.specs.declared.Stepped.{Stepped}
use Rattle.settle_output.specs.Output.{room, sender_of, receiver_of, header_line, step_line, settled_line, bad_line}

-- a line that has an end, and fits
abbrev pub Fits : List ℕ → Type 0
Fits line = (1 ≤ length line) × (length line ≤ room)

line_fits : (word numbers : List ℕ) → length word + 11 * length numbers + 1 ≤ room → Fits (line_of word numbers)
line_fits word numbers h =
    rw (length-append (word ++ numbers_of numbers) (line_feed ∷ []), length-append word (numbers_of numbers))
    (omega arith, omega (arith, numbers_length numbers))

pub header_fits : Fits header_line
header_fits = (omega arith, omega arith)

pub step_fits : (stepped : Stepped) → Fits (step_line stepped)
step_fits stepped = line_fits (letter_of stepped.kind ∷ []) (sender_of stepped.kind ∷ receiver_of stepped.kind ∷ stepped.views ∷ []) (omega arith)

pub settled_fits : (settled : Settled) → Fits (settled_line settled)
settled_fits settled = line_fits (0x45 ∷ []) (settled.passes ∷ settled.silences ∷ settled.views ∷ []) (omega arith)

pub bad_fits : (number : ℕ) → Fits (bad_line number)
bad_fits number = line_fits (0x62 ∷ 0x61 ∷ 0x64 ∷ []) (number ∷ []) (omega arith)
