-- How long words can be. Assumes nothing.
use Rattle.std.specs.Prelude.{◌≤◌}
use Rattle.laws.specs.Usual.{arith, length}
use Rattle.station.specs.declared.Data.{Data}
use Rattle.station.specs.declared.Data.TheVariants.{Kept, Written, Dropped, Repeat}
use Rattle.replay_reply_outcome.specs.Outcome.{data_word}

pub data_length : (outcome : Data) → length (data_word outcome) ≤ 7
data_length Kept = omega arith
data_length Written = omega arith
data_length Dropped = omega arith
data_length Repeat = omega arith
