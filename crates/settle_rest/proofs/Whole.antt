-- What is proved of the definitions in specs/Whole.antt.
use Rattle.laws.specs.Usual.{refl, []}
use Rattle.std.specs.Prelude.{◌≡◌, ◌∷◌, ◌++◌}
use Rattle.text.specs.Decimal.{decimal_at}
use Rattle.settle_run.specs.Run.{run_from}
use Rattle.settle_input.specs.Input.{lines_of, entry_of, forms_from}
use Rattle.settle_output.specs.Output.{header_line}
use Rattle.settle_rest.specs.Whole.{step_lines, output_of, example}

-- the column names, then "S,0,0,2", "P,1,2,1", "E,1,1,1"
shown : output_of example
    ≡ header_line
    ++ (0x53 ∷ 0x2c ∷ 0x30 ∷ 0x2c ∷ 0x30 ∷ 0x2c ∷ 0x32 ∷ 0x0a
    ∷ 0x50 ∷ 0x2c ∷ 0x31 ∷ 0x2c ∷ 0x32 ∷ 0x2c ∷ 0x31 ∷ 0x0a
    ∷ 0x45 ∷ 0x2c ∷ 0x31 ∷ 0x2c ∷ 0x31 ∷ 0x2c ∷ 0x31 ∷ 0x0a ∷ [])
unfolding decimal_at run_from lines_of entry_of forms_from step_lines
shown = refl
