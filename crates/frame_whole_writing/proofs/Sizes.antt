-- A bound on the octets of a frame that is written. Assumes nothing.
use Rattle.std.specs.Prelude.{◌≤◌}
use Rattle.laws.specs.Usual.{Bool, true, false, cond, ℕ, arith}
use native.Mathlib.Nat.{le_refl}
use Rattle.frame.specs.Codes.{is_cyclic}
use Rattle.frame.specs.declared.Fields.{Fields}
use Rattle.frame_reading.specs.Reading.{data_size}

at_most : (test : Bool) (n : ℕ) → cond test n 0 ≤ n
at_most true n = le_refl n
at_most false n = omega arith

-- a frame carries no more data than its BSIZE
pub data_within : (fields : Fields) → data_size fields ≤ fields.size
data_within fields = at_most (is_cyclic fields.code) fields.size
