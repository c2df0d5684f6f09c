-- Calls to which one number applies, or several, or none, each worked out by the rules and by the table. Assumes nothing.
use Rattle.std.specs.Prelude.{◌≡◌}
use Rattle.laws.specs.Usual.{[], refl, map}
use Rattle.frame_reading.specs.Reading.{fields_of}
use Rattle.station.specs.Rules.Calls.{verdict}
use Rattle.frame_writing.specs.Writing.{header_of, front_of, back_of, fixed_for}
use Rattle.refusals.specs.Applies.{first_applying}
use Rattle.refusals.specs.Cases.{number_in, Row, rows}

-- the rules answer each with its number,
pub by_rules : map (λ (r : Row). number_in (verdict r.station r.call)) rows ≡ map (λ (r : Row). r.number) rows
unfolding header_of front_of back_of fixed_for fields_of
by_rules = refl

-- and so does the table
pub by_table : map (λ (r : Row). number_in (first_applying r.station r.call)) rows ≡ map (λ (r : Row). r.number) rows
unfolding header_of front_of back_of fixed_for fields_of
by_table = refl
