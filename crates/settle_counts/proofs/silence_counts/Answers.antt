-- `settle_counts::silence_counts` meets its contract.
use Rattle.laws.specs.Usual.{ap, ◌∙◌}
use Rattle.settle_counts.specs.Counts.{above_zero}
use Rattle.settle_counts.proofs.silence_counts.Goals as goal

pub returns : goal.returns
returns c =
    let carried = c.carry.ensures in
    record { value = c.above_zero.ensures ∙ ap above_zero carried.value; numbers_after = carried.value; numbers_len = carried.len }
