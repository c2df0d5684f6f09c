-- `replay_performing::digits_of` meets its contract.
use Rattle.std.specs.Prelude.{◌*◌}
use Rattle.laws.specs.Usual.{◌∙◌, arith, length, rules}
use Rattle.replay_performing.proofs.Buffers.{all_behind}
use Rattle.replay_performing.proofs.digits_of.Goals as goal

pub returns-then-line-count : goal.returns-then-line-count
returns-then-line-count c =
    let a = c.args in
    c.part_of.ensures ∙ all_behind a.line.now a.at (length a.line.now) (2 * a.count) (omega arith) (omega arith)
