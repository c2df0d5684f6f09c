-- A frame without data does not depend on the block that is lent. Assumes nothing.
use Rattle.std.specs.Prelude.{◌≡◌}
use Rattle.laws.specs.Usual.{List, [], ℕ, arith, length}
use Rattle.std.proofs.Common.{le-leb}
use Rattle.frame.specs.declared.Fields.{Fields}
use Rattle.frame_reading.specs.Reading.{data_size}
use Rattle.frame_writing.specs.Writing.{output_of}

pub no_data : (fields : Fields) (block output : List ℕ) → data_size fields ≡ 0 → output_of fields [] output ≡ output_of fields block output
no_data fields block output e = rw (e, le-leb 0 (length block) (omega arith))
